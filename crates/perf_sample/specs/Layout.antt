-- Which fields a sample has (`perf_event.h`, struct perf_event_attr), and which samples a layout
-- can hold.
use Rattle.std.specs.Prelude.{◌≡◌, ℕ, ◌+◌, ◌*◌, ◌/◌, ◌%◌, ◌^◌, ◌<◌, Bool, true, false, not, ◌&&◌}
use Rattle.std.specs.Prelude.{◌||◌, if◌then◌else◌, nat_eq, bit_and, List, [], ◌∷◌, ◌++◌, length}
use Rattle.std.specs.Prelude.{All}
use Rattle.std.specs.List.{AllByRecursion}
use Rattle.perf_sample.specs.Word.{IsZero}
use Rattle.perf_sample.specs.Fields.{before_nr, all_fields, field_bits, row_of, word_of}
use Rattle.perf_sample.specs.declared.faults.Place.{Place}
use Rattle.perf_sample.specs.declared.faults.Place.TheVariants as place
use Rattle.perf_sample.specs.declared.flags.TheConstants.{BRANCH_STACK, FIRST_RESERVED, HW_INDEX}
use Rattle.perf_sample.specs.declared.sample.Branch.{Branch}
use Rattle.perf_sample.specs.declared.sample.Sample.{Sample}

-- the words that lay out a sample: sample_type, and of branch_sample_type what is known here
pub record LayoutWords : Type 0 where
  pub sample_type : ℕ
  pub branch : ℕ

-- the branch word is 0
abbrev pub of_sample_type : ℕ → LayoutWords
of_sample_type bits = record { sample_type = bits; branch = 0 }

-- no bit but those of the fields that are known here and of the branch stack, and that one
abbrev pub is_layout : ℕ → Bool
is_layout bits =
    nat_eq (bit_and bits (field_bits + BRANCH_STACK)) bits
    && not (nat_eq (bit_and bits BRANCH_STACK) 0)

abbrev pub IsLayout : ℕ → Type 0
IsLayout bits = is_layout bits ≡ true

-- no bit, or the hardware index alone
abbrev pub is_branch_word : ℕ → Bool
is_branch_word bits = nat_eq bits 0 || nat_eq bits HW_INDEX

abbrev pub IsBranchWord : ℕ → Type 0
IsBranchWord bits = is_branch_word bits ≡ true

-- whether sample_type has the bit 2 ^ k
abbrev pub has_bit : LayoutWords → ℕ → Bool
has_bit layout k = nat_eq (layout.sample_type / 2 ^ k % 2) 1

-- whether a layout has a field
abbrev pub has : LayoutWords → Place → Bool
has layout place.HwIndex = nat_eq layout.branch HW_INDEX
has layout place.Nr = true
has layout (place.From i) = true
has layout (place.To i) = true
has layout (place.Flags i) = true
has layout p = has_bit layout (row_of p).bit

-- those of some fields that a layout has
unfoldable pub fields_in : LayoutWords → List Place → List Place
fields_in layout [] = []
fields_in layout (p ∷ ps) = if has layout p then p ∷ fields_in layout ps else fields_in layout ps

-- the length of a sample without branches: the header and those fields, of eight bytes each
unfoldable pub fixed_len : LayoutWords → ℕ
fixed_len layout = 8 + 8 * length (fields_in layout all_fields)

-- where the number of branches stands
unfoldable pub nr_at : LayoutWords → ℕ
nr_at layout = 8 + 8 * length (fields_in layout before_nr)

-- a field that is left out is 0
abbrev pub LeftOut : LayoutWords → Sample → Place → Type 0
LeftOut layout s p = has layout p ≡ false → IsZero (word_of p s)

-- no reserved flag: those are the bits from 33 up
abbrev pub FlagsFit : List Branch → Type 0
FlagsFit branches = All (λ b. b.flags < FIRST_RESERVED) branches

-- the layout can hold the sample
pub record Fits (layout : LayoutWords) (sample : Sample) : Type 0 where
  pub left_out : AllByRecursion (LeftOut layout sample) all_fields
  pub flags : FlagsFit sample.branches
