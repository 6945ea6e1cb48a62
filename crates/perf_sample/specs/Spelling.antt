-- A sample as bytes (`perf_event.h`, PERF_RECORD_SAMPLE and struct perf_branch_entry).
use Rattle.std.specs.Prelude.{◌≡◌, ℕ, ◌+◌, ◌*◌, ◌≤◌, List, ◌++◌, length}
use Rattle.std.specs.List.{flat_map}
use Rattle.byteorder.specs.Endian.{little_bytes}
use Rattle.perf_sample.specs.declared.faults.Place.{Place}
use Rattle.perf_sample.specs.declared.flags.TheConstants.{BRANCH_SIZE, PERF_RECORD_SAMPLE}
use Rattle.perf_sample.specs.declared.limits.TheConstants.{MAX_BRANCHES}
use Rattle.perf_sample.specs.declared.sample.Branch.{Branch}
use Rattle.perf_sample.specs.declared.sample.Sample.{Sample}
use Rattle.perf_sample.specs.declared.word.Word.{Word}
use Rattle.perf_sample.specs.declared.word.Word.TheVariants as word
use Rattle.perf_sample.specs.Fields.{word_of}
use Rattle.perf_sample.specs.Layout.{LayoutWords, fields_in, fixed_len, Fits}
use Rattle.perf_sample.specs.Fields.{all_fields}

-- the k bytes of a number, the lowest first; closed, so that no goal spells them out
unfoldable pub le : ℕ → ℕ → List ℕ
le k number = little_bytes k number

-- the eight bytes of a word
abbrev pub word_bytes : Word → List ℕ
word_bytes (word.Whole number) = le 8 number
word_bytes (word.Halves low high) = le 4 low ++ le 4 high

abbrev pub place_bytes : Place → Sample → List ℕ
place_bytes p s = word_bytes (word_of p s)

-- some fields, one after another
abbrev pub fields_bytes : Sample → List Place → List ℕ
fields_bytes s places = flat_map (λ p. place_bytes p s) places

-- the header: type, misc and size
abbrev pub header_bytes : ℕ → ℕ → List ℕ
header_bytes misc size = le 4 PERF_RECORD_SAMPLE ++ le 2 misc ++ le 2 size

-- from, to and the word of flags
abbrev pub branch_bytes : Branch → List ℕ
branch_bytes b = le 8 b.from ++ le 8 b.to ++ le 8 b.flags

-- the length of a sample in a layout
abbrev pub size_of : LayoutWords → Sample → ℕ
size_of layout s = fixed_len layout + BRANCH_SIZE * length s.branches

-- the header, the fields that the layout has, and the branches
unfoldable pub spelling : LayoutWords → Sample → List ℕ
spelling layout s =
    header_bytes s.misc (size_of layout s)
    ++ fields_bytes s (fields_in layout all_fields)
    ++ flat_map branch_bytes s.branches

-- these bytes are the sample in this layout
pub record Spells (layout : LayoutWords) (s : Sample) (bytes : List ℕ) : Type 0 where
  pub fits : Fits layout s
  pub few : length s.branches ≤ MAX_BRANCHES
  pub bytes_are : bytes ≡ spelling layout s
