-- A sample from left to right.
use Rattle.std.proofs.Common.{◌≡◌, ℕ, ◌+◌, ◌*◌, ◌^◌, ◌<◌, ◌≤◌, List, [], ◌∷◌, ◌++◌, map, length, true, Option, Some, None, refl, sym, ap, ◌∙◌, arith, append_assoc, length-append, inr}
use Rattle.std.specs.Io.KnownBytes.{Consumes}
use Rattle.byteorder.specs.Endian.{little_number}
use Rattle.std.specs.List.{All, flat_map, AllByRecursion}
use Rattle.perf_sample.specs.declared.sample.Sample.{Sample}
use Rattle.perf_sample.specs.declared.faults.SampleFault.{SampleFault}
use Rattle.perf_sample.specs.Layout.{LayoutWords, fields_in, fixed_len, nr_at, FlagsFit, Fits}
use Rattle.perf_sample.specs.Fields.{before_nr, all_fields}
use Rattle.perf_sample.specs.Spelling.{le, place_bytes, fields_bytes, header_bytes, branch_bytes, size_of, spelling, Spells}
use Rattle.perf_sample.specs.Front.{SameWord}
use Rattle.perf_sample.specs.Breaks.{number_at, is_size, Field, Header, At, branch_fields, fields_of, first_of, first_break}
use Rattle.perf_sample.specs.Format.{Broke}
use Rattle.perf_sample.specs.Front.{front_bytes, TakesFront}
use Rattle.perf_sample.specs.Back.{back_bytes, back_break, TakesBack}
use Rattle.perf_sample.specs.Reading.{sample_faults, Stopped}
use Rattle.perf_sample.proofs.ReadingLaws.{broke_after}
use Rattle.perf_sample.proofs.BreakLaws.{passes, early, behind}
use Rattle.perf_sample.proofs.HeaderLaws.{length_header, kind_read, size_read}
use Rattle.perf_sample.proofs.PartLaws.{nr_fields, index_fields, fields_split, index_bytes, fields_parts, length_front}
use Rattle.perf_sample.proofs.RowLaws.{before_right}
use Rattle.perf_sample.proofs.FieldLaws.{length_fields, fields_pass, same_bytes, all_split}

-- the header is passed over
header_passes : (layout : LayoutWords) (misc size : ℕ) (fs : List Field) (z : List ℕ) → size < 2 ^ 16 → is_size layout size ≡ true → first_of layout size (Header ∷ fs) (header_bytes misc size ++ z) ≡ first_of layout size fs z
header_passes layout misc size fs z small right =
    passes layout size Header fs (header_bytes misc size) z (length_header 9 misc size)
    (rw (kind_read 9 misc size z (omega arith), size_read 9 misc size z small, right) refl)

-- which fields there are, by the number of branches that the bytes tell
abbrev pub told_nr : LayoutWords → List ℕ → ℕ
told_nr layout bytes = number_at (nr_at layout) 8 bytes

-- behind the header
behind_header : (layout : LayoutWords) (misc size : ℕ) (z : List ℕ) → size < 2 ^ 16 → is_size layout size ≡ true
    → first_break layout (header_bytes misc size ++ z)
    ≡ first_of layout size (map At (fields_in layout before_nr) ++ nr_fields layout (told_nr layout (header_bytes misc size ++ z))) z
unfolding first_break fields_of
behind_header layout misc size z small right =
    let bytes = header_bytes misc size ++ z in
    let nr = told_nr layout bytes in
    let fs = map At (fields_in layout all_fields) ++ branch_fields 0 nr in
    ap (λ (n : ℕ). first_of layout n (Header ∷ fs) bytes) (size_read 9 misc size z small)
    ∙ header_passes layout misc size fs z small right
    ∙ ap (λ (l : List Field). first_of layout size l z) (fields_split layout nr)

-- what breaks in the fields before the number of branches breaks the sample
breaks_in_front : (layout : LayoutWords) (misc size : ℕ) → size < 2 ^ 16
    → is_size layout size ≡ true → (z : List ℕ) (r : SampleFault × List ℕ)
    → first_of layout size (map At (fields_in layout before_nr)) z ≡ Some r
    → first_break layout (header_bytes misc size ++ z) ≡ Some r
breaks_in_front layout misc size small right z r e =
    let nr = told_nr layout (header_bytes misc size ++ z) in
    behind_header layout misc size z small right
    ∙ early layout size (map At (fields_in layout before_nr)) (nr_fields layout nr) z r e

-- the header and the fields before the number of branches
abbrev pub up_to_nr : LayoutWords → ℕ → ℕ → Sample → List ℕ
up_to_nr layout misc size s = header_bytes misc size ++ front_bytes layout s

nr_told : (layout : LayoutWords) (misc size : ℕ) (s : Sample) (z : List ℕ)
    → told_nr layout (up_to_nr layout misc size s ++ z) ≡ number_at 0 8 z
unfolding number_at
nr_told layout misc size s z =
    ap (little_number 8)
    (behind (up_to_nr layout misc size s) z (nr_at layout) (length_front layout misc size s))

-- behind them the rest is read
pub behind_front : (layout : LayoutWords) (misc size : ℕ) (s : Sample) (z : List ℕ)
    → size < 2 ^ 16 → is_size layout size ≡ true
    → first_break layout (up_to_nr layout misc size s ++ z) ≡ back_break layout size z
unfolding fields_in
behind_front layout misc size s z small right =
    let front = front_bytes layout s in
    let split = append_assoc (header_bytes misc size) front z in
    let bytes = up_to_nr layout misc size s ++ z in
    let before = map At (fields_in layout before_nr) in
    ap (first_break layout) split
    ∙ behind_header layout misc size (front ++ z) small right
    ∙ ap (λ (b : List ℕ). first_of layout size (before ++ nr_fields layout (told_nr layout b))
    (front ++ z)) (sym split)
    ∙ fields_pass layout size s before_nr (nr_fields layout (told_nr layout bytes)) z
    (before_right layout size s)
    ∙ ap (λ (n : ℕ). first_of layout size (nr_fields layout n) z) (nr_told layout misc size s z)

-- reading stopped in the fields before the number of branches
pub front_broke : (layout : LayoutWords) (misc size : ℕ) (a b c : Option (List ℕ))
    (f : SampleFault) → size < 2 ^ 16 → is_size layout size ≡ true
    → Consumes a b (header_bytes misc size)
    → Stopped (first_of layout size (map At (fields_in layout before_nr))) b c f
    → Broke sample_faults (first_break layout) a c f
front_broke layout misc size a b c f small right took h =
    broke_after sample_faults a b c (header_bytes misc size)
    (first_of layout size (map At (fields_in layout before_nr))) (first_break layout) f
    (omega (arith, length_header 9 misc size)) took (breaks_in_front layout misc size small right) h

-- or behind them
pub back_broke : (layout : LayoutWords) (misc size : ℕ) (s : Sample) (a b c : Option (List ℕ))
    (f : SampleFault) → size < 2 ^ 16 → is_size layout size ≡ true
    → Consumes a b (up_to_nr layout misc size s) → Stopped (back_break layout size) b c f
    → Broke sample_faults (first_break layout) a c f
back_broke layout misc size s a b c f small right took h =
    let y = up_to_nr layout misc size s in
    let some : 0 < length y =
    omega (
      arith,
      length-append (header_bytes misc size) (front_bytes layout s),
      length_header 9 misc size,
    ) in
    broke_after sample_faults a b c y (back_break layout size) (first_break layout) f some took
    (λ z r e. behind_front layout misc size s z small right ∙ e) h

-- a spelling is its header and these two parts
pub spelling_is : (layout : LayoutWords) (s : Sample) → spelling layout s ≡ (header_bytes s.misc (size_of layout s) ++ front_bytes layout s) ++ back_bytes layout s
unfolding spelling fields_in
spelling_is layout s =
    let h = header_bytes s.misc (size_of layout s) in
    let f = front_bytes layout s in
    let r = le 8 (length s.branches) ++ index_bytes layout s in
    let t = flat_map branch_bytes s.branches in
    ap (λ (l : List ℕ). (h ++ l) ++ t) (fields_parts layout s) ∙ ap (λ (l : List ℕ). l ++ t) (sym (append_assoc h f r)) ∙ append_assoc (h ++ f) r t

-- what was read is the spelling of a sample
pub parts_spell : (layout : LayoutWords) (misc size : ℕ) (s t : Sample) → Fits layout t
    → AllByRecursion (SameWord s t) before_nr → misc ≡ t.misc → length t.branches ≤ 256
    → size ≡ size_of layout t
    → Spells layout t (up_to_nr layout misc size s ++ back_bytes layout t)
parts_spell layout misc size s t fits same is few sized =
    let back = back_bytes layout t in
    record {
      fits = fits;
      few = few;
      bytes_are =
          ap (λ (x : List ℕ). (header_bytes misc size ++ x) ++ back)
          (same_bytes layout s t before_nr same)
          ∙ ap (λ (m : ℕ). (header_bytes m size ++ front_bytes layout t) ++ back) is
          ∙ ap (λ (n : ℕ). (header_bytes t.misc n ++ front_bytes layout t) ++ back) sized
          ∙ sym (spelling_is layout t);
    }

-- what was written part by part is the spelling
pub parts_written : (layout : LayoutWords) (s : Sample) (n : ℕ) (a b c d : List ℕ) → a ≡ []
    → b ≡ a ++ header_bytes s.misc n → c ≡ b ++ front_bytes layout s
    → d ≡ c ++ back_bytes layout s → n ≡ size_of layout s → d ≡ spelling layout s
parts_written layout s n a b c d none first second third sized =
    let rest = λ (x : List ℕ). (x ++ front_bytes layout s) ++ back_bytes layout s in
    third
    ∙ ap (λ (x : List ℕ). x ++ back_bytes layout s) second
    ∙ ap rest (first ∙ ap (λ (x : List ℕ). x ++ header_bytes s.misc n) none)
    ∙ ap (λ (m : ℕ). rest (header_bytes s.misc m)) sized
    ∙ sym (spelling_is layout s)
