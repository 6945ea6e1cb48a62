-- Counts of faults: 64 bits wide, never falling, and staying at the last value once they are there.
use Rattle.std.specs.Prelude.{ℕ, ◌+◌, ◌-◌, ◌^◌, ◌≤◌, min, Bool, true, false, Result, Ok, Err}

-- the count rose, or stands at its last value
abbrev pub Rose : ℕ → ℕ → Type 0
Rose before now = min (before + 1) (2 ^ 64 - 1) ≤ now

-- the count didn't fall, and rose where it must have
abbrev pub RoseIf : Bool → ℕ → ℕ → Type 0
RoseIf true before now = (before ≤ now) × Rose before now
RoseIf false before now = before ≤ now

-- an answer that is the fault of an end, as `is_fault` tells, comes only where the end counted one
abbrev pub HasCause : {T E : Type 0} → (E → Bool) → ℕ → ℕ → Result T E → Type 0
HasCause is_fault before now (Ok _) = before ≤ now
HasCause is_fault before now (Err f) = RoseIf (is_fault f) before now
