-- Where bytes break a layout: at the first field from the left that is broken (perf_event.h,
-- PERF_RECORD_SAMPLE). Each field has eight bytes.
use Rattle.std.specs.Prelude.{ℕ, zero, suc, ◌+◌, ◌*◌, ◌-◌, ◌%◌, Bool, true, false, ◌&&◌}
use Rattle.std.specs.Prelude.{if◌then◌else◌, nat_eq, nat_le, nat_lt, List, [], ◌∷◌, ◌++◌, map}
use Rattle.std.specs.Prelude.{length, drop, Option, Some, None}
use Rattle.byteorder.specs.Endian.{little_number}
use Rattle.perf_sample.specs.Format.{Break, BreaksBy}
use Rattle.perf_sample.specs.Layout.{LayoutWords, fields_in, fixed_len, nr_at}
use Rattle.perf_sample.specs.Fields.{all_fields}
use Rattle.perf_sample.specs.declared.flags.TheConstants.{FIRST_RESERVED, BRANCH_SIZE}
use Rattle.perf_sample.specs.declared.flags.TheConstants.{PERF_RECORD_SAMPLE}
use Rattle.perf_sample.specs.declared.limits.TheConstants.{MAX_BRANCHES}
use Rattle.perf_sample.specs.declared.faults.Place.{Place}
use Rattle.perf_sample.specs.declared.faults.Place.TheVariants as place
use Rattle.perf_sample.specs.declared.faults.SampleFault.{SampleFault}
use Rattle.perf_sample.specs.declared.faults.SampleFault.TheVariants as fault

-- the number that the k bytes from a place on spell, the lowest first; closed, so that no goal
-- spells it out
unfoldable pub number_at : ℕ → ℕ → List ℕ → ℕ
number_at at k bytes = little_number k (drop at bytes)

-- F + BRANCH_SIZE * k for a k from 0 to 256, with F the length of a sample without branches
abbrev pub is_size : LayoutWords → ℕ → Bool
is_size layout size =
    nat_le (fixed_len layout) size
    && nat_le size (fixed_len layout + BRANCH_SIZE * MAX_BRANCHES)
    && nat_eq ((size - fixed_len layout) % BRANCH_SIZE) 0

-- the header, or a field behind it
pub data Field : Type 0 where
  Header : Field
  At : Place → Field

-- from, to and flags of so many branches, from this number on
unfoldable pub branch_fields : ℕ → ℕ → List Field
branch_fields i zero = []
branch_fields i (suc n) =
    At (place.From i) ∷ At (place.To i) ∷ At (place.Flags i) ∷ branch_fields (suc i) n

-- all fields of a sample with so many branches, in their order
unfoldable pub fields_of : LayoutWords → ℕ → List Field
fields_of layout nr = Header ∷ (map At (fields_in layout all_fields) ++ branch_fields 0 nr)

-- the fault where the bytes end in a field or in its place
abbrev pub cut_in : Field → SampleFault
cut_in Header = fault.Header
cut_in (At p) = fault.Short p

abbrev pub unless : Bool → SampleFault → Option SampleFault → Option SampleFault
unless true f next = next
unless false f next = Some f

-- the fault of a header at the front of the bytes, where its size has to be such
abbrev pub wrong_header : (ℕ → Bool) → List ℕ → Option SampleFault
wrong_header is_right bytes =
    unless (nat_eq (number_at 0 4 bytes) PERF_RECORD_SAMPLE) fault.Kind
    (unless (is_right (number_at 6 2 bytes)) fault.Size None)

-- the fault of a field's value, which stands at the front of the bytes: a sample of this size in
-- its header
abbrev pub wrong_in : LayoutWords → ℕ → Field → List ℕ → Option SampleFault
wrong_in layout size Header bytes = wrong_header (is_size layout) bytes
wrong_in layout size (At place.Cpu) bytes =
    unless (nat_eq (number_at 4 4 bytes) 0) fault.CpuReserved None
wrong_in layout size (At place.Nr) bytes =
    unless (nat_le (number_at 0 8 bytes) MAX_BRANCHES) fault.Count
    (unless (nat_eq size (fixed_len layout + BRANCH_SIZE * number_at 0 8 bytes)) fault.Size None)
wrong_in layout size (At (place.Flags i)) bytes =
    unless (nat_lt (number_at 0 8 bytes) FIRST_RESERVED) (fault.FlagReserved i) None
wrong_in layout size (At p) bytes = None

-- the fault of a field at the front of the bytes, if it is broken
abbrev pub fault_in : LayoutWords → ℕ → Field → List ℕ → Option SampleFault
fault_in layout size field bytes =
    if nat_lt (length bytes) 8 then Some (cut_in field) else wrong_in layout size field bytes

abbrev pub or_on : Option SampleFault → List ℕ → Break SampleFault
    → Break SampleFault
or_on (Some f) rest next = Some (f, rest)
or_on None rest next = next

-- a header that is broken: its fault, and what follows it
unfoldable pub header_break : (ℕ → Bool) → List ℕ → Break SampleFault
header_break is_right bytes =
    or_on (if nat_lt (length bytes) 8 then Some (cut_in Header) else wrong_header is_right bytes)
    (drop 8 bytes) None

-- the first of these fields that is broken: its fault, and what follows it
unfoldable pub first_of : LayoutWords → ℕ → List Field → List ℕ → Break SampleFault
first_of layout size [] bytes = None
first_of layout size (field ∷ fields) bytes =
    or_on (fault_in layout size field bytes) (drop 8 bytes)
    (first_of layout size fields (drop 8 bytes))

-- the same of all fields of a sample. The header tells the size, and a field behind it how many
-- branches there are
unfoldable pub first_break : LayoutWords → List ℕ → Break SampleFault
first_break layout bytes =
    first_of layout (number_at 6 2 bytes) (fields_of layout (number_at (nr_at layout) 8 bytes))
    bytes

-- the bytes break the layout with this fault; the rest follows the broken field
abbrev pub Breaks : LayoutWords → List ℕ → SampleFault → List ℕ → Type 0
Breaks layout bytes f rest = BreaksBy (first_break layout) bytes f rest
