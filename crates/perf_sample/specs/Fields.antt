-- The fields between the header of a sample and its branches (`perf_event.h`, PERF_RECORD_SAMPLE),
-- one row each for those before the number of branches: which bit of sample_type each has (enum
-- perf_event_sample_format), and what of a sample its eight bytes hold.
use Rattle.std.specs.Prelude.{◌≡◌, ℕ, ◌+◌, ◌^◌, ◌<◌, List, [], ◌∷◌, ◌++◌, length, sum_by}
use Rattle.perf_sample.specs.declared.faults.Place.{Place}
use Rattle.perf_sample.specs.declared.faults.Place.TheVariants as place
use Rattle.perf_sample.specs.declared.sample.Sample.{Sample}
use Rattle.perf_sample.specs.declared.word.Word.{Word}
use Rattle.perf_sample.specs.declared.word.Word.TheVariants as word

-- the number of a word, or its lower half; and its upper half
abbrev pub low_of : Word → ℕ
low_of (word.Whole number) = number
low_of (word.Halves low high) = low

abbrev pub high_of : Word → ℕ
high_of (word.Whole number) = 0
high_of (word.Halves low high) = high

-- a row: the bit 2 ^ k of sample_type, the word of a sample, and the sample with a word
pub record Row : Type 0 where
  pub bit : ℕ
  pub word : Sample → Word
  pub with_word : Word → Sample → Sample

-- one number, two of half the width, or one of half the width with a reserved half behind it
abbrev pub whole : ℕ → (Sample → ℕ) → (ℕ → Sample → Sample) → Row
whole k n with_n = record {
  bit = k;
  word = λ s. word.Whole (n s);
  with_word = λ w s. with_n (low_of w) s;
}

abbrev pub halves : ℕ → (Sample → ℕ) → (Sample → ℕ) → (ℕ → ℕ → Sample → Sample) → Row
halves k m n with_both = record {
  bit = k;
  word = λ s. word.Halves (m s) (n s);
  with_word = λ w s. with_both (low_of w) (high_of w) s;
}

abbrev pub lower : ℕ → (Sample → ℕ) → (ℕ → Sample → Sample) → Row
lower k n with_n = record {
  bit = k;
  word = λ s. word.Halves (n s) 0;
  with_word = λ w s. with_n (low_of w) s;
}

-- what isn't in the table has no bit and no word
abbrev pub no_row : Row
no_row = record { bit = 0; word = λ s. word.Whole 0; with_word = λ w s. s }

abbrev pub row_of : Place → Row
row_of place.Identifier = whole 16 (λ s. s.identifier) (λ n s. record s { identifier = n })
row_of place.Ip = whole 0 (λ s. s.ip) (λ n s. record s { ip = n })
row_of place.Tid =
    halves 1 (λ s. s.pid) (λ s. s.tid) (λ m n s. record s { pid = m; tid = n })
row_of place.Time = whole 2 (λ s. s.time) (λ n s. record s { time = n })
row_of place.Addr = whole 3 (λ s. s.addr) (λ n s. record s { addr = n })
row_of place.Id = whole 6 (λ s. s.id) (λ n s. record s { id = n })
row_of place.StreamId = whole 9 (λ s. s.stream_id) (λ n s. record s { stream_id = n })
row_of place.Cpu = lower 7 (λ s. s.cpu) (λ n s. record s { cpu = n })
row_of place.Period = whole 8 (λ s. s.period) (λ n s. record s { period = n })
row_of _ = no_row

-- the fields before the number of branches, in their order
abbrev pub before_nr : List Place
before_nr =
    place.Identifier ∷ place.Ip ∷ place.Tid ∷ place.Time ∷ place.Addr ∷ place.Id
    ∷ place.StreamId ∷ place.Cpu ∷ place.Period ∷ []

-- those from it on, before the branches
abbrev pub from_nr : List Place
from_nr = place.Nr ∷ place.HwIndex ∷ []

-- the fields between the header and the branches, in their order
abbrev pub all_fields : List Place
all_fields = before_nr ++ from_nr

-- the bits of the fields that may be left out
abbrev pub field_bits : ℕ
field_bits = sum_by (λ p. 2 ^ (row_of p).bit) before_nr

-- the word in a field; the fields of a branch are none of these, and stand in the list of branches
abbrev pub word_of : Place → Sample → Word
word_of place.Nr s = word.Whole (length s.branches)
word_of place.HwIndex s = word.Whole s.hw_index
word_of p s = (row_of p).word s

-- the sample with a word in this field
abbrev pub with_word : Place → Word → Sample → Sample
with_word place.HwIndex w s = record s { hw_index = low_of w }
with_word p w s = (row_of p).with_word w s
