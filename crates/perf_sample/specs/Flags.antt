-- A recorded transfer as a branch (`perf_event.h`, struct perf_branch_entry).
use Rattle.std.specs.Prelude.{ℕ, ◌+◌, ◌*◌, Bool, true, false, if◌then◌else◌, nat_eq, List, [], ◌∷◌}
use Rattle.std.specs.List.{list_any}
use Rattle.perf_sample.specs.PerfTypes.{perf_type_of}
use Rattle.perf_sample.specs.declared.flags.TheConstants.{MISPRED, PREDICTED, TYPE}
use Rattle.perf_sample.specs.declared.sample.Branch.{Branch}

-- the transfer types (RISC-V Control Transfer Records 1.0) whose direction or target a processor
-- predicts: branches not taken and taken, indirect calls, indirect jumps, a co-routine swap,
-- returns, and other indirect jumps with linkage
abbrev pub predicted_types : List ℕ
predicted_types = 4 ∷ 5 ∷ 8 ∷ 10 ∷ 12 ∷ 13 ∷ 14 ∷ []

abbrev pub is_predicted : ℕ → Bool
is_predicted kind = list_any (λ k. nat_eq k kind) predicted_types

-- mispred or predicted, for a transfer that is predicted at all
abbrev pub prediction : Bool → ℕ
prediction true = MISPRED
prediction false = PREDICTED

abbrev pub transfer_flags : ℕ → Bool → ℕ
transfer_flags kind mispredicted =
    TYPE * perf_type_of kind + (if is_predicted kind then prediction mispredicted else 0)

-- the branch of a transfer of this type between two addresses
abbrev pub transfer_branch : ℕ → ℕ → ℕ → Bool → Branch
transfer_branch from to kind mispredicted =
    record { from = from; to = to; flags = transfer_flags kind mispredicted }
