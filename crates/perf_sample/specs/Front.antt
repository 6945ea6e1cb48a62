-- What reading the fields between the header and the branches does to the sample, and the part of
-- a sample before the number of branches, for records that hold something more behind it.
use Rattle.std.specs.Prelude.{◌≡◌, ℕ, ◌<◌, ◌^◌, List, [], ◌∷◌, ◌++◌, map, Option, Result, Ok, Err}
use Rattle.std.specs.Io.KnownBytes.{Consumes}
use Rattle.std.specs.List.{AllByRecursion}
use Rattle.perf_sample.specs.declared.sample.Sample.{Sample}
use Rattle.perf_sample.specs.declared.faults.Place.{Place}
use Rattle.perf_sample.specs.declared.faults.Place.TheVariants as place
use Rattle.perf_sample.specs.declared.faults.SampleFault.{SampleFault}
use Rattle.perf_sample.specs.declared.faults.SampleFault.TheVariants as fault
use Rattle.perf_sample.specs.Layout.{LayoutWords, fields_in, Fits}
use Rattle.perf_sample.specs.Fields.{before_nr, word_of, with_word}
use Rattle.perf_sample.specs.Spelling.{le, place_bytes, fields_bytes}
use Rattle.perf_sample.specs.Breaks.{At, first_of}
use Rattle.perf_sample.specs.Format.{Break}
use Rattle.perf_sample.specs.Reading.{Stopped}

-- nothing but this field changed
abbrev pub SetsOnly : Place → Sample → Sample → Type 0
SetsOnly p old new = new ≡ with_word p (word_of p new) old

-- the bytes hold a field that has a place of its own in a sample
abbrev pub Holds : Place → List ℕ → Sample → Type 0
Holds place.Nr bytes s = Unit {0}
Holds (place.From i) bytes s = Unit {0}
Holds (place.To i) bytes s = Unit {0}
Holds (place.Flags i) bytes s = Unit {0}
Holds p bytes s = place_bytes p s ≡ bytes

-- what the bytes of a field say is in the sample, or they are those of cpu with a reserved half
-- that isn't 0
abbrev pub PutsIn : Place → List ℕ → Sample → Sample → Result (Unit {0}) SampleFault → Type 0
PutsIn p bytes old new (Ok _) = Holds p bytes new × SetsOnly p old new
PutsIn p bytes old new (Err f) =
    (f ≡ fault.CpuReserved)
    × (p ≡ place.Cpu)
    × (cpu : ℕ)
    × (reserved : ℕ)
    × (le 4 cpu ++ le 4 reserved ≡ bytes)
    × (reserved ≡ 0 → ⊥)
    × (reserved < 2 ^ 32)

-- the fields before the number of branches
abbrev pub front_bytes : LayoutWords → Sample → List ℕ
front_bytes layout s = fields_bytes s (fields_in layout before_nr)

-- the first of them that is broken, in the bytes that begin with them; none looks at the size
abbrev pub front_break : LayoutWords → List ℕ → Break SampleFault
front_break layout bytes = first_of layout 0 (map At (fields_in layout before_nr)) bytes

-- a field was taken
abbrev pub TakesRow : Place → Option (List ℕ) → Option (List ℕ) → Sample → Sample
    → Result (Unit {0}) SampleFault → Type 0
TakesRow p left left' old new (Ok _) =
    (bytes : List ℕ) × Consumes left left' bytes × Holds p bytes new × SetsOnly p old new
TakesRow p left left' old new (Err f) =
    (layout : LayoutWords) (size : ℕ) → Stopped (first_of layout size (At p ∷ [])) left left' f

-- the fields before the number of branches that the layout has were taken, and nothing else of the
-- sample changed
abbrev pub TakesFront : LayoutWords → Option (List ℕ) → Option (List ℕ) → Sample → Sample
    → Result (Unit {0}) SampleFault → Type 0
TakesFront layout left left' old new (Ok _) =
    Consumes left left' (front_bytes layout new)
    × Fits layout new
    × (new.misc ≡ old.misc)
    × (new.branches ≡ old.branches)
TakesFront layout left left' old new (Err f) =
    (size : ℕ) → Stopped (first_of layout size (map At (fields_in layout before_nr))) left left' f

-- two samples have the same word in a field
abbrev pub SameWord : Sample → Sample → Place → Type 0
SameWord s t p = word_of p s ≡ word_of p t

-- the hardware index was taken where the layout has it, and nothing else of the sample changed
abbrev pub TakesHwIndex : LayoutWords → Option (List ℕ) → Option (List ℕ) → Sample → Sample
    → Result (Unit {0}) SampleFault → Type 0
TakesHwIndex layout left left' old new (Ok _) =
    Consumes left left' (fields_bytes new (fields_in layout (place.HwIndex ∷ [])))
    × Fits layout new
    × AllByRecursion (SameWord old new) before_nr
    × (new.misc ≡ old.misc)
    × (new.branches ≡ old.branches)
TakesHwIndex layout left left' old new (Err f) =
    (size : ℕ)
    → Stopped (first_of layout size (map At (fields_in layout (place.HwIndex ∷ [])))) left left' f
