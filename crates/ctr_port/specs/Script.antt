-- How an end over memory behaves: how much each call moves, and which calls fail.
use Rattle.std.specs.Prelude.{ℕ, zero, suc, ◌+◌, ◌-◌, ◌%◌, ◌^◌, List, [], ◌∷◌, length, min, None}
use Rattle.std.specs.Prelude.{Some, nat_eq, slice_index, if◌then◌else◌}
use Rattle.std.specs.List.{list_any}
use Rattle.std.specs.declared.option.Option.{Option}
use Rattle.ctr_port.specs.declared.ends.Got.{Got}
use Rattle.ctr_port.specs.declared.ends.Got.TheVariants as got
use Rattle.ctr_port.specs.declared.ends.Put.{Put}
use Rattle.ctr_port.specs.declared.ends.Put.TheVariants as put

-- the lengths of pieces, used in turn; the numbers of the calls that fail; the number of the next
-- call
pub record Plan : Type 0 where
  pub pieces : List ℕ
  pub failing : List ℕ
  pub call : ℕ

-- the most that a call moves; no list of pieces sets no limit of its own
abbrev pub cut : List ℕ → ℕ → ℕ → ℕ
cut [] call most = most
cut (p ∷ ps) call most = min most (slice_index (p ∷ ps) (call % length (p ∷ ps)))

-- what the next call moves of so many bytes; none where it fails
abbrev pub limit : Plan → ℕ → Option ℕ
limit plan most =
    if list_any (λ k. nat_eq k plan.call) plan.failing then None
    else Some (cut plan.pieces plan.call most)

-- the plan after a call; the number stays at its last value once it is there
abbrev pub after : Plan → Plan
after plan = record plan { call = min (plan.call + 1) (2 ^ 64 - 1) }

-- what a read that moves so many bytes answers
abbrev pub got_of : Option ℕ → Got
got_of None = got.Failed
got_of (Some zero) = got.End
got_of (Some (suc n)) = got.Bytes (suc n)

-- what a write that moves so many bytes answers; one without room fails
abbrev pub put_of : Option ℕ → Put
put_of None = put.Failed
put_of (Some zero) = put.Failed
put_of (Some (suc n)) = put.Took (suc n)

-- a count of faults after a call: one more where it failed, and the same where it didn't
abbrev pub reads_failed : Got → ℕ → ℕ
reads_failed got.Failed faults = min (faults + 1) (2 ^ 64 - 1)
reads_failed (got.Bytes n) faults = faults
reads_failed got.End faults = faults

abbrev pub writes_failed : Put → ℕ → ℕ
writes_failed put.Failed faults = min (faults + 1) (2 ^ 64 - 1)
writes_failed (put.Took n) faults = faults
