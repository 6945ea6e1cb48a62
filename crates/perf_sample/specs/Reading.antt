-- The faults of samples, and what reading a field does to the bytes that a source has left.
use Rattle.std.specs.Prelude.{◌≡◌, ◌⊎◌, ℕ, ◌+◌, ◌*◌, ◌<◌, ◌≤◌, Bool, true, false, if◌then◌else◌}
use Rattle.std.specs.Prelude.{nat_lt, List, [], ◌∷◌, length, drop, Option, Some, None, Result, Ok}
use Rattle.std.specs.Prelude.{Err}
use Rattle.std.specs.List.{flat_map}
use Rattle.std.specs.Io.KnownBytes.{Consumes, IsAtEnd}
use Rattle.ctr_port.specs.InHand.{Of}
use Rattle.perf_sample.specs.declared.sample.Branch.{Branch}
use Rattle.perf_sample.specs.declared.sample.Sample.{Sample}
use Rattle.perf_sample.specs.Layout.{LayoutWords, fixed_len, FlagsFit}
use Rattle.perf_sample.specs.declared.flags.TheConstants.{FIRST_RESERVED, BRANCH_SIZE}
use Rattle.perf_sample.specs.Spelling.{le, branch_bytes, Spells}
use Rattle.perf_sample.specs.Breaks.{Field, At, branch_fields, cut_in, first_of, first_break}
use Rattle.perf_sample.specs.Format.{Cause, OfRead, OfCount, OfBytes, FaultKinds, Break, Format}
use Rattle.perf_sample.specs.Format.{Stops}
use Rattle.perf_sample.specs.Sample.{IsSample}
use Rattle.perf_sample.specs.declared.limits.TheConstants.{MAX_BRANCHES}
use Rattle.perf_sample.specs.declared.faults.Place.{Place}
use Rattle.perf_sample.specs.declared.faults.Place.TheVariants as place
use Rattle.perf_sample.specs.declared.field.Stop.{Stop}
use Rattle.perf_sample.specs.declared.field.Stop.TheVariants as stop
use Rattle.perf_sample.specs.declared.faults.SampleFault.{SampleFault}
use Rattle.perf_sample.specs.declared.faults.SampleFault.TheVariants as fault

-- eight bytes were taken, or fewer
abbrev pub TakesField : Option (List ℕ) → Option (List ℕ) → Result (List ℕ) Stop → Type 0
TakesField left left' (Ok bytes) = Consumes left left' bytes
TakesField left left' (Err (stop.Ended n)) =
    (x : List ℕ) × (length x ≡ n) × (n < 8) × Consumes left left' x × IsAtEnd left'
TakesField left left' (Err stop.Failed) = (x : List ℕ) × (length x < 8) × Consumes left left' x

abbrev pub cause_of : SampleFault → Cause
cause_of fault.ReadFault = OfRead
cause_of fault.TooMany = OfCount
cause_of _ = OfBytes

-- a fault of the source, told by a reader of samples or of a field
abbrev pub is_read : SampleFault → Bool
is_read fault.ReadFault = true
is_read _ = false

abbrev pub is_failed : Stop → Bool
is_failed stop.Failed = true
is_failed (stop.Ended n) = false

-- a field is cut short
abbrev pub is_short : SampleFault → Bool
is_short fault.Header = true
is_short (fault.Short p) = true
is_short _ = false

abbrev pub sample_faults : FaultKinds SampleFault
sample_faults = record {
  cause_of = cause_of;
  is_short = is_short;
  read_fault = fault.ReadFault;
  too_many = fault.TooMany;
}

-- reading stopped at the first of some fields of a sample that is broken
abbrev pub Stopped : (List ℕ → Break SampleFault) → Option (List ℕ) → Option (List ℕ)
    → SampleFault → Type 0
Stopped broken left left' f = Stops sample_faults broken left left' f

-- the stream of samples of a layout
abbrev pub sample_format : LayoutWords → Format Sample SampleFault
sample_format layout = record {
  kinds = sample_faults;
  in_range = IsSample;
  spells = Spells layout;
  first_break = first_break layout;
}

-- bytes that end in this field or in its place
abbrev pub cut_at : Field → List ℕ → Option (SampleFault × List ℕ)
cut_at field bytes = if nat_lt (length bytes) 8 then Some (cut_in field, drop 8 bytes) else None

-- the eight bytes of a field were taken, or the bytes ended in it
abbrev pub TakesPlace : Place → Option (List ℕ) → Option (List ℕ) → Result (List ℕ) SampleFault
    → Type 0
TakesPlace p left left' (Ok bytes) = Consumes left left' bytes
TakesPlace p left left' (Err f) = Stopped (cut_at (At p)) left left' f

-- a number of eight bytes was taken, or fewer bytes
abbrev pub TakesWord : Option (List ℕ) → Option (List ℕ) → Result ℕ Stop → Type 0
TakesWord left left' (Ok n) = Consumes left left' (le 8 n)
TakesWord left left' (Err (stop.Ended n)) =
    (x : List ℕ) × (length x ≡ n) × (n < 8) × Consumes left left' x × IsAtEnd left'
TakesWord left left' (Err stop.Failed) = (x : List ℕ) × (length x < 8) × Consumes left left' x

-- the number of a field was taken
abbrev pub TakesNumber : Place → Option (List ℕ) → Option (List ℕ) → Result ℕ SampleFault → Type 0
TakesNumber p left left' (Ok n) = Consumes left left' (le 8 n)
TakesNumber p left left' (Err f) = Stopped (cut_at (At p)) left left' f

-- a branch was taken, or one of its fields is the first that is broken
abbrev pub TakesBranch : ℕ → Option (List ℕ) → Option (List ℕ) → Result Branch SampleFault → Type 0
TakesBranch i left left' (Ok b) = Consumes left left' (branch_bytes b) × (b.flags < FIRST_RESERVED)
TakesBranch i left left' (Err f) =
    (layout : LayoutWords) (size : ℕ)
    → Stopped (first_of layout size (branch_fields i 1)) left left' f

-- so many branches were taken, and they are those of the list
abbrev pub TakesBranches : ℕ → Option (List ℕ) → Option (List ℕ) → List Branch
    → Result (Unit {0}) SampleFault → Type 0
TakesBranches nr left left' branches (Ok _) =
    Consumes left left' (flat_map branch_bytes branches)
    × (length branches ≡ nr)
    × FlagsFit branches
TakesBranches nr left left' branches (Err f) =
    (layout : LayoutWords) (size : ℕ)
    → Stopped (first_of layout size (branch_fields 0 nr)) left left' f

-- the number of branches was taken, and the size in the header agrees with it
abbrev pub TakesNr : LayoutWords → ℕ → Option (List ℕ) → Option (List ℕ) → Result ℕ SampleFault
    → Type 0
TakesNr layout size left left' (Ok nr) =
    Consumes left left' (le 8 nr) × (nr ≤ MAX_BRANCHES) × (size ≡ fixed_len layout + BRANCH_SIZE * nr)
TakesNr layout size left left' (Err f) =
    Stopped (first_of layout size (At place.Nr ∷ [])) left left' f
