-- The part of a sample from the number of branches on (`perf_event.h`, PERF_RECORD_SAMPLE), for
-- records that hold something more before it, as a call chain.
use Rattle.std.specs.Prelude.{◌≡◌, ℕ, ◌≤◌, List, ◌++◌, map, length, Option, Result, Ok, Err}
use Rattle.std.specs.List.{AllByRecursion, flat_map}
use Rattle.std.specs.Io.KnownBytes.{Consumes}
use Rattle.perf_sample.specs.declared.limits.TheConstants.{MAX_BRANCHES}
use Rattle.perf_sample.specs.declared.sample.Sample.{Sample}
use Rattle.perf_sample.specs.declared.faults.SampleFault.{SampleFault}
use Rattle.perf_sample.specs.Layout.{LayoutWords, fields_in, Fits}
use Rattle.perf_sample.specs.Fields.{before_nr, from_nr}
use Rattle.perf_sample.specs.Spelling.{fields_bytes, branch_bytes, size_of}
use Rattle.perf_sample.specs.Breaks.{At, number_at, first_of, branch_fields}
use Rattle.perf_sample.specs.Format.{Break}
use Rattle.perf_sample.specs.Front.{SameWord}
use Rattle.perf_sample.specs.Reading.{Stopped}

-- the fields from the number of branches on, and the branches
abbrev pub back_bytes : LayoutWords → Sample → List ℕ
back_bytes layout s =
    fields_bytes s (fields_in layout from_nr) ++ flat_map branch_bytes s.branches

-- the first of them that is broken, in the bytes that begin with them, of a sample of this size
abbrev pub back_break : LayoutWords → ℕ → List ℕ → Break SampleFault
back_break layout size bytes =
    first_of layout size
    (map At (fields_in layout from_nr) ++ branch_fields 0 (number_at 0 8 bytes)) bytes

-- the fields from the number of branches on, and the branches, were taken, in a sample of this
-- size, and nothing before them changed
abbrev pub TakesBack : LayoutWords → ℕ → Option (List ℕ) → Option (List ℕ) → Sample → Sample
    → Result (Unit {0}) SampleFault → Type 0
TakesBack layout size left left' old new (Ok _) =
    Consumes left left' (back_bytes layout new)
    × Fits layout new
    × AllByRecursion (SameWord old new) before_nr
    × (new.misc ≡ old.misc)
    × (length new.branches ≤ MAX_BRANCHES)
    × (size ≡ size_of layout new)
TakesBack layout size left left' old new (Err f) = Stopped (back_break layout size) left left' f
