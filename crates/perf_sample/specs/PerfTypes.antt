-- The map from control transfer types to perf branch types. It is this project's choice: neither
-- standard gives one.
use Rattle.std.specs.Prelude.{ℕ, List, [], ◌∷◌, get_or}

-- entry k is the perf type (perf_event.h, enum perf_branch_type) of transfer type k (RISC-V Control
-- Transfer Records 1.0): exceptions are syscall 7, interrupts irq 12, trap returns eret 11,
-- branches cond 1, calls ind_call 5 and call 4, jumps ind 3 and uncond 2, a co-routine swap
-- ind_call 5, returns ret 6, other linked jumps ind 3 and uncond 2
abbrev pub perf_types : List ℕ
perf_types = 0 ∷ 7 ∷ 12 ∷ 11 ∷ 1 ∷ 1 ∷ 0 ∷ 0 ∷ 5 ∷ 4 ∷ 3 ∷ 2 ∷ 5 ∷ 6 ∷ 3 ∷ 2 ∷ []

abbrev pub perf_type_of : ℕ → ℕ
perf_type_of kind = get_or perf_types kind 0
