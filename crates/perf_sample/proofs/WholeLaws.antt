-- Bytes without a break begin with the spelling of a sample.
use Rattle.std.proofs.Common.{◌≡◌, ℕ, zero, suc, ◌+◌, ◌*◌, ◌^◌, ◌<◌, ◌≤◌, List, [], ◌∷◌, ◌++◌, map, length, take, drop, Bool, true, false, if◌then◌else◌, nat_eq, nat_lt, nat_le, Option, Some, None, refl, sym, ap, ◌∙◌, subst, arith, append_assoc, append-nil, add-one, length-append}
use Rattle.std.proofs.lemmas.Bool.{ltb-false, ltb-true, leb-true, eqb-true}
use Rattle.std.proofs.lemmas.List.{length-take-le, take-append-drop}
use Rattle.std.proofs.lemmas.List.Elements.{All-cons, All-nil}
use Rattle.std.specs.List.{All, AllByRecursion, flat_map}
use Rattle.byteorder.specs.Endian.{little_number}
use Rattle.byteorder.specs.Numbers.{little_from-lt}
use Rattle.perf_sample.specs.declared.sample.Branch.{Branch}
use Rattle.perf_sample.specs.declared.sample.Sample.{Sample}
use Rattle.perf_sample.specs.declared.faults.Place.{Place}
use Rattle.perf_sample.specs.declared.faults.Place.TheVariants as place
use Rattle.perf_sample.specs.declared.faults.SampleFault.{SampleFault}
use Rattle.perf_sample.specs.declared.faults.SampleFault.TheVariants as fault
use Rattle.perf_sample.specs.Layout.{LayoutWords, has, fields_in, fixed_len, nr_at, FlagsFit, Fits}
use Rattle.perf_sample.specs.Fields.{before_nr, all_fields}
use Rattle.perf_sample.specs.Word.{InWidth}
use Rattle.perf_sample.specs.Fields.{word_of}
use Rattle.perf_sample.specs.Sample.{blank}
use Rattle.perf_sample.specs.Front.{SetsOnly, SameWord}
use Rattle.perf_sample.specs.Spelling.{le, place_bytes, fields_bytes, header_bytes, branch_bytes, size_of, Spells}
use Rattle.perf_sample.specs.Back.{back_bytes, back_break}
use Rattle.perf_sample.specs.Breaks.{number_at, is_size, Field, Header, At, branch_fields, fields_of, cut_in, wrong_in, or_on, unless, first_of, first_break}
use Rattle.perf_sample.specs.BranchRange.{IsBranch}
use Rattle.perf_sample.specs.Sample.{IsSample}
use Rattle.perf_sample.proofs.NumberLaws.{AreBytes, number_back, halves_back, header_back, are_behind, are_before}
use Rattle.perf_sample.proofs.BreakLaws.{behind, length_le, number_read, number_behind}
use Rattle.perf_sample.proofs.HeaderLaws.{any_header, length_header, kind_read, size_read}
use Rattle.perf_sample.proofs.PartLaws.{nr_fields, index_fields, index_bytes, fields_split, range_with, with_branches}
use Rattle.perf_sample.proofs.SampleLaws.{up_to_nr, parts_spell}
use Rattle.perf_sample.proofs.CaseLaws.{AtFront}
use Rattle.perf_sample.specs.Front.{front_bytes}
use Rattle.perf_sample.specs.Reading.{sample_format}
use Rattle.perf_sample.proofs.RowLaws.{field_at, row_kept, index_kept}
use Rattle.perf_sample.proofs.FieldLaws.{length_fields, same_bytes, in_there, in_left_out, in_drop_there, in_drop_out, bytes_there, bytes_out}
use Rattle.perf_sample.proofs.OneSpelling.{the_branch}

abbrev Found : Type 0
Found = Option (SampleFault × List ℕ)

-- a field that isn't the first broken one has eight bytes and a right value, and nothing breaks behind it
pub passed_by : (b : Bool) (field : Field) (rest : List ℕ) (w : Option SampleFault) (n : Found) → or_on (if b then Some (cut_in field) else w) rest n ≡ None → (b ≡ false) × (w ≡ None) × (n ≡ None)
passed_by true field rest w n e = absurd cc
passed_by false field rest (Some f) n e = absurd cc
passed_by false field rest None n e = (refl, refl, e)

pub record Passed (layout : LayoutWords) (size : ℕ) (field : Field) (fields : List Field) (bytes : List ℕ) : Type 0 where
  pub long : 8 ≤ length bytes
  pub right : wrong_in layout size field bytes ≡ None
  pub none : first_of layout size fields (drop 8 bytes) ≡ None

pub passed : (layout : LayoutWords) (size : ℕ) (field : Field) (fields : List Field) (bytes : List ℕ) → first_of layout size (field ∷ fields) bytes ≡ None → Passed layout size field fields bytes
unfolding first_of
passed layout size field fields bytes e =
    let p = passed_by (nat_lt (length bytes) 8) field (drop 8 bytes) (wrong_in layout size field bytes) (first_of layout size fields (drop 8 bytes)) e in
    record { long = ltb-false (length bytes) 8 p.0; right = p.1; none = p.2 }

-- the numbers at the front of bytes
pub record OneNumber (bytes : List ℕ) : Type 0 where
  pub n : ℕ
  pub small : n < 2 ^ 64
  pub is : bytes ≡ le 8 n ++ drop 8 bytes

pub one_read : (bytes : List ℕ) → 8 ≤ length bytes → AreBytes bytes → OneNumber bytes
one_read bytes long are =
    let front = take 8 bytes in
    let they = are_before 8 bytes are in
    record {
      n = little_number 8 front;
      small = little_from-lt 0 8 front they;
      is = sym (ap (λ (x : List ℕ). x ++ drop 8 bytes) (number_back front (length-take-le 8 bytes long) they) ∙ take-append-drop 8 bytes);
    }

record TwoNumbers (bytes : List ℕ) : Type 0 where
  m : ℕ
  n : ℕ
  first : m < 2 ^ 32
  second : n < 2 ^ 32
  is : bytes ≡ (le 4 m ++ le 4 n) ++ drop 8 bytes

two_read : (bytes : List ℕ) → 8 ≤ length bytes → AreBytes bytes → TwoNumbers bytes
two_read bytes long are =
    let front = take 8 bytes in
    let they = are_before 8 bytes are in
    record {
      m = little_number 4 (take 4 front);
      n = little_number 4 (drop 4 front);
      first = little_from-lt 0 4 (take 4 front) (are_before 4 front they);
      second = little_from-lt 0 4 (drop 4 front) (are_behind 4 front they);
      is =
          sym (ap (λ (x : List ℕ). x ++ drop 8 bytes) (halves_back front (take 4 front) (drop 4 front) (length-take-le 8 bytes long) they refl refl) ∙ take-append-drop 8 bytes);
    }

pub record HeaderRead (bytes : List ℕ) : Type 0 where
  pub kind : ℕ
  pub misc : ℕ
  pub size : ℕ
  pub small_kind : kind < 2 ^ 32
  pub small_misc : misc < 2 ^ 16
  pub small_size : size < 2 ^ 16
  pub is : bytes ≡ any_header kind misc size ++ drop 8 bytes

pub header_of : (bytes : List ℕ) → 8 ≤ length bytes → AreBytes bytes → HeaderRead bytes
header_of bytes long are =
    let front = take 8 bytes in
    let rest = drop 4 front in
    let they = are_before 8 bytes are in
    let behind = are_behind 4 front they in
    record {
      kind = little_number 4 (take 4 front);
      misc = little_number 2 (take 2 rest);
      size = little_number 2 (drop 2 rest);
      small_kind = little_from-lt 0 4 (take 4 front) (are_before 4 front they);
      small_misc = little_from-lt 0 2 (take 2 rest) (are_before 2 rest behind);
      small_size = little_from-lt 0 2 (drop 2 rest) (are_behind 2 rest behind);
      is =
          sym (ap (λ (x : List ℕ). x ++ drop 8 bytes) (header_back front (take 4 front) rest (take 2 rest) (drop 2 rest) (length-take-le 8 bytes long) they refl refl refl refl)
          ∙ take-append-drop 8 bytes);
    }

pub right_alone : (b : Bool) (f : SampleFault) → unless b f None ≡ None → b ≡ true
right_alone true f e = refl
right_alone false f e = absurd cc

pub right_both : (b c : Bool) (f g : SampleFault) → unless b f (unless c g None) ≡ None → (b ≡ true) × (c ≡ true)
right_both true true f g e = (refl, refl)
right_both true false f g e = absurd cc
right_both false c f g e = absurd cc

pub next : (a b r t : List ℕ) → r ≡ t → a ++ (b ++ r) ≡ (a ++ b) ++ t
next a b r t e = sym (append_assoc a b r) ∙ ap (λ (x : List ℕ). (a ++ b) ++ x) e

three : (s t u v a b c : List ℕ) → s ≡ a ++ t → t ≡ b ++ u → u ≡ c ++ v → s ≡ (a ++ b) ++ (c ++ v)
three s t u v a b c is_s is_t is_u = is_s ∙ ap (λ (r : List ℕ). a ++ r) is_t ∙ next a b u (c ++ v) is_u

four : (s t u v w a b c d : List ℕ) → s ≡ a ++ t → t ≡ b ++ u → u ≡ c ++ v → v ≡ d ++ w → s ≡ (a ++ b ++ c ++ d) ++ w
four s t u v w a b c d is_s is_t is_u is_v =
    three s t u v a b c is_s is_t is_u ∙ next (a ++ b) c v (d ++ w) is_v ∙ sym (append_assoc (a ++ b ++ c) d w)

-- a word at the front of bytes, put into the field of this number
record WordRead (n : ℕ) (bytes : List ℕ) (s : Sample) : Type 0 where
  new : Sample
  sets : SetsOnly (field_at n) s new
  small : InWidth (word_of (field_at n) new)
  is : bytes ≡ place_bytes (field_at n) new ++ drop 8 bytes

word_read : (layout : LayoutWords) (size n : ℕ) (bytes : List ℕ) (s : Sample) → n < 9 → AreBytes bytes → 8 ≤ length bytes
    → wrong_in layout size (At (field_at n)) bytes ≡ None → WordRead n bytes s
word_read layout size zero bytes s within are long right =
    let one = one_read bytes long are in record { new = record s { identifier = one.n }; sets = refl; small = one.small; is = one.is }
word_read layout size (suc zero) bytes s within are long right =
    let one = one_read bytes long are in record { new = record s { ip = one.n }; sets = refl; small = one.small; is = one.is }
word_read layout size (suc (suc zero)) bytes s within are long right =
    let two = two_read bytes long are in
    record { new = record s { pid = two.m; tid = two.n }; sets = refl; small = (two.first, two.second); is = two.is }
word_read layout size (suc (suc (suc zero))) bytes s within are long right =
    let one = one_read bytes long are in record { new = record s { time = one.n }; sets = refl; small = one.small; is = one.is }
word_read layout size (suc (suc (suc (suc zero)))) bytes s within are long right =
    let one = one_read bytes long are in record { new = record s { addr = one.n }; sets = refl; small = one.small; is = one.is }
word_read layout size (suc (suc (suc (suc (suc zero))))) bytes s within are long right =
    let one = one_read bytes long are in record { new = record s { id = one.n }; sets = refl; small = one.small; is = one.is }
word_read layout size (suc (suc (suc (suc (suc (suc zero)))))) bytes s within are long right =
    let one = one_read bytes long are in record { new = record s { stream_id = one.n }; sets = refl; small = one.small; is = one.is }
word_read layout size (suc (suc (suc (suc (suc (suc (suc zero))))))) bytes s within are long right =
    let two = two_read bytes long are in
    let told : number_at 4 4 bytes ≡ two.n =
    ap (number_at 4 4) (two.is ∙ append_assoc (le 4 two.m) (le 4 two.n) (drop 8 bytes))
    ∙ number_behind 4 4 two.n (le 4 two.m) (drop 8 bytes) (length_le 4 two.m) two.second in
    let nothing : two.n ≡ 0 = sym told ∙ eqb-true (number_at 4 4 bytes) 0 (right_alone (nat_eq (number_at 4 4 bytes) 0) fault.CpuReserved right) in
    record {
      new = record s { cpu = two.m };
      sets = refl;
      small = (two.first, omega arith);
      is = two.is ∙ ap (λ (n : ℕ). (le 4 two.m ++ le 4 n) ++ drop 8 bytes) nothing;
    }
word_read layout size (suc (suc (suc (suc (suc (suc (suc (suc zero)))))))) bytes s within are long right =
    let one = one_read bytes long are in record { new = record s { period = one.n }; sets = refl; small = one.small; is = one.is }
word_read layout size (suc (suc (suc (suc (suc (suc (suc (suc (suc n))))))))) bytes s within are long right = absurd (omega (arith, within))

-- what the first n fields hold, in a sample that has no branches yet
pub record RowsRead (layout : LayoutWords) (size misc n : ℕ) (qs : List Field) (bytes : List ℕ) : Type 0 where
  pub sample : Sample
  pub fits : Fits layout sample
  pub range : IsSample sample
  pub same : sample.misc ≡ misc
  pub rest : List ℕ
  pub are : AreBytes rest
  pub is : bytes ≡ fields_bytes sample (fields_in layout (take n before_nr)) ++ rest
  pub none : first_of layout size (map At (fields_in layout (drop n before_nr)) ++ qs) rest ≡ None

rows_start : (layout : LayoutWords) (size misc : ℕ) (qs : List Field) (bytes : List ℕ) → misc < 2 ^ 16 → AreBytes bytes
    → first_of layout size (map At (fields_in layout before_nr) ++ qs) bytes ≡ None → RowsRead layout size misc 0 qs bytes
unfolding fields_in
rows_start layout size misc qs bytes small are free = record {
  sample = record blank { misc = misc };
  fits = record {
    left_out = (λ off. refl, (λ off. refl, (λ off. (refl, refl), (λ off. refl, (λ off. refl, (λ off. refl, (λ off. refl, (λ off. (refl, refl), (λ off. refl, (λ off. refl, (λ off. refl, tt)))))))))));
    flags = All-nil (λ b. b.flags < 2 ^ 33);
  };
  range = record {
    misc = small;
    fields = (omega arith, (omega arith, ((omega arith, omega arith), (omega arith, (omega arith, (omega arith, (omega arith, ((omega arith, omega arith), (omega arith, (omega arith, (omega arith, tt)))))))))));
    branches = All-nil IsBranch;
  };
  same = refl;
  rest = bytes;
  are = are;
  is = refl;
  none = free;
}

rows_step_by : (b : Bool) (layout : LayoutWords) (size misc n : ℕ) (qs : List Field) (bytes : List ℕ) → has layout (field_at n) ≡ b → n < 9
    → RowsRead layout size misc n qs bytes → RowsRead layout size misc (n + 1) qs bytes
rows_step_by true layout size misc n qs bytes on within r =
    let p = field_at n in
    let front = fields_in layout (take n before_nr) in
    let more = fields_in layout (drop (n + 1) before_nr) in
    let seen = passed layout size (At p) (map At more ++ qs) r.rest
    (ap (λ (l : List Place). first_of layout size (map At l ++ qs) r.rest) (sym (in_drop_there layout before_nr n place.Identifier within on)) ∙ r.none) in
    let read = word_read layout size n r.rest r.sample within r.are seen.long seen.right in
    let kept = row_kept layout n r.sample read.new within read.sets on r.fits in
    let rest = drop 8 r.rest in
    record {
      sample = read.new;
      fits = kept.fits;
      range = kept.range r.range read.small;
      same = kept.misc ∙ r.same;
      rest = rest;
      are = are_behind 8 r.rest r.are;
      is =
          r.is
          ∙ ap (λ (l : List ℕ). fields_bytes r.sample front ++ l) read.is
          ∙ sym (append_assoc (fields_bytes r.sample front) (place_bytes p read.new) rest)
          ∙ ap (λ (l : List ℕ). (l ++ place_bytes p read.new) ++ rest) (sym kept.front)
          ∙ ap (λ (l : List ℕ). l ++ rest) (sym (bytes_there layout read.new before_nr n place.Identifier within on));
      none = seen.none;
    }
rows_step_by false layout size misc n qs bytes off within r = record {
  sample = r.sample;
  fits = r.fits;
  range = r.range;
  same = r.same;
  rest = r.rest;
  are = r.are;
  is = r.is ∙ ap (λ (l : List ℕ). l ++ r.rest) (sym (bytes_out layout r.sample before_nr n place.Identifier within off));
  none = ap (λ (l : List Place). first_of layout size (map At l ++ qs) r.rest) (sym (in_drop_out layout before_nr n place.Identifier within off)) ∙ r.none;
}

rows_step : (layout : LayoutWords) (size misc n : ℕ) (qs : List Field) (bytes : List ℕ) → n < 9 → RowsRead layout size misc n qs bytes → RowsRead layout size misc (n + 1) qs bytes
rows_step layout size misc n qs bytes within r = rows_step_by (has layout (field_at n)) layout size misc n qs bytes refl within r

rows_up_to : (n : ℕ) (layout : LayoutWords) (size misc : ℕ) (qs : List Field) (bytes : List ℕ) → n ≤ 9 → RowsRead layout size misc 0 qs bytes → RowsRead layout size misc n qs bytes
rows_up_to zero layout size misc qs bytes within r = r
rows_up_to (suc n) layout size misc qs bytes within r =
    subst (λ (k : ℕ). RowsRead layout size misc k qs bytes) (add-one n)
    (rows_step layout size misc n qs bytes (omega (arith, within)) (rows_up_to n layout size misc qs bytes (omega (arith, within)) r))

-- all fields before the number of branches
pub rows_read : (layout : LayoutWords) (size misc : ℕ) (qs : List Field) (bytes : List ℕ) → misc < 2 ^ 16 → AreBytes bytes
    → first_of layout size (map At (fields_in layout before_nr) ++ qs) bytes ≡ None → RowsRead layout size misc 9 qs bytes
rows_read layout size misc qs bytes small are free =
    rows_up_to 9 layout size misc qs bytes (omega arith) (rows_start layout size misc qs bytes small are free)

-- the hardware index, where the layout has it
pub record IndexRead (layout : LayoutWords) (size : ℕ) (qs : List Field) (s : Sample) (bytes : List ℕ) : Type 0 where
  pub new : Sample
  pub fits : Fits layout new
  pub range : IsSample new
  pub before : AllByRecursion (SameWord s new) before_nr
  pub misc : new.misc ≡ s.misc
  pub rest : List ℕ
  pub are : AreBytes rest
  pub is : bytes ≡ index_bytes layout new ++ rest
  pub none : first_of layout size qs rest ≡ None

index_by : (b : Bool) (layout : LayoutWords) (size : ℕ) (qs : List Field) (s : Sample) (bytes : List ℕ) → has layout place.HwIndex ≡ b → Fits layout s → IsSample s → AreBytes bytes
    → first_of layout size (index_fields layout ++ qs) bytes ≡ None → IndexRead layout size qs s bytes
index_by true layout size qs s bytes on f is are free =
    let there = in_there layout place.HwIndex on in
    let seen = passed layout size (At place.HwIndex) qs bytes (ap (λ (l : List Place). first_of layout size (map At l ++ qs) bytes) (sym there) ∙ free) in
    let one = one_read bytes seen.long are in
    let new : Sample = record s { hw_index = one.n } in
    let kept = index_kept layout s new refl on f in
    record {
      new = new;
      fits = kept.fits;
      range = kept.range is one.small;
      before = kept.before;
      misc = kept.misc;
      rest = drop 8 bytes;
      are = are_behind 8 bytes are;
      is =
          one.is
          ∙ ap (λ (l : List ℕ). l ++ drop 8 bytes) (sym (append-nil (le 8 one.n)))
          ∙ ap (λ (l : List Place). fields_bytes new l ++ drop 8 bytes) (sym there);
      none = seen.none;
    }
index_by false layout size qs s bytes off f is are free =
    let out = in_left_out layout place.HwIndex off in
    record {
      new = s;
      fits = f;
      range = is;
      before = (refl, (refl, (refl, (refl, (refl, (refl, (refl, (refl, (refl, tt)))))))));
      misc = refl;
      rest = bytes;
      are = are;
      is = ap (λ (l : List Place). fields_bytes s l ++ bytes) (sym out);
      none = ap (λ (l : List Place). first_of layout size (map At l ++ qs) bytes) (sym out) ∙ free;
    }

pub index_read : (layout : LayoutWords) (size : ℕ) (qs : List Field) (s : Sample) (bytes : List ℕ) → Fits layout s → IsSample s → AreBytes bytes
    → first_of layout size (index_fields layout ++ qs) bytes ≡ None → IndexRead layout size qs s bytes
index_read layout size qs s bytes f is are free = index_by (has layout place.HwIndex) layout size qs s bytes refl f is are free

-- so many branches
pub record StackRead (n : ℕ) (bytes : List ℕ) : Type 0 where
  pub branches : List Branch
  pub count : length branches ≡ n
  pub fit : FlagsFit branches
  pub range : All IsBranch branches
  pub rest : List ℕ
  pub is : bytes ≡ flat_map branch_bytes branches ++ rest

stack_joined : (n : ℕ) (bytes : List ℕ) (from : OneNumber bytes) (to : OneNumber (drop 8 bytes)) (flags : OneNumber (drop 8 (drop 8 bytes))) → flags.n < 2 ^ 33
    → StackRead n (drop 8 (drop 8 (drop 8 bytes))) → StackRead (suc n) bytes
stack_joined n bytes from to flags right more =
    let here = the_branch from.n to.n flags.n in
    record {
      branches = here ∷ more.branches;
      count = ap suc more.count;
      fit = All-cons (λ b. b.flags < 2 ^ 33) here more.branches right more.fit;
      range = All-cons IsBranch here more.branches (record { from = from.small; to = to.small; flags = flags.small }) more.range;
      rest = more.rest;
      is =
          four bytes (drop 8 bytes) (drop 8 (drop 8 bytes)) (drop 8 (drop 8 (drop 8 bytes))) more.rest (le 8 from.n) (le 8 to.n) (le 8 flags.n) (flat_map branch_bytes more.branches)
          from.is to.is flags.is more.is;
    }

pub stack_read : (n : ℕ) (layout : LayoutWords) (size i : ℕ) (bytes : List ℕ) → AreBytes bytes → first_of layout size (branch_fields i n) bytes ≡ None → StackRead n bytes
unfolding branch_fields
stack_read zero layout size i bytes are free = record { branches = []; count = refl; fit = All-nil (λ b. b.flags < 2 ^ 33); range = All-nil IsBranch; rest = bytes; is = refl }
stack_read (suc n) layout size i bytes are free =
    let others = branch_fields (suc i) n in
    let behind = drop 8 bytes in
    let they = are_behind 8 bytes are in
    let last = drop 8 behind in
    let those = are_behind 8 behind they in
    let a = passed layout size (At (place.From i)) (At (place.To i) ∷ At (place.Flags i) ∷ others) bytes free in
    let b = passed layout size (At (place.To i)) (At (place.Flags i) ∷ others) behind a.none in
    let c = passed layout size (At (place.Flags i)) others last b.none in
    let from = one_read bytes a.long are in
    let to = one_read behind b.long they in
    let flags = one_read last c.long those in
    let told : number_at 0 8 last ≡ flags.n = ap (number_at 0 8) flags.is ∙ number_read 8 flags.n (drop 8 last) flags.small in
    let seen = ltb-true (number_at 0 8 last) (2 ^ 33) (right_alone (nat_lt (number_at 0 8 last) (2 ^ 33)) (fault.FlagReserved i) c.right) in
    let right : flags.n < 2 ^ 33 = subst (λ (k : ℕ). k < 2 ^ 33) told seen in
    stack_joined n bytes from to flags right (stack_read n layout size (suc i) (drop 8 last) (are_behind 8 last those) c.none)

-- the number of branches, the hardware index and the branches, at the front of bytes
pub record BackRead (layout : LayoutWords) (size : ℕ) (s : Sample) (bytes : List ℕ) : Type 0 where
  pub sample : Sample
  pub range : IsSample sample
  pub fits : Fits layout sample
  pub before : AllByRecursion (SameWord s sample) before_nr
  pub misc : sample.misc ≡ s.misc
  pub few : length sample.branches ≤ 256
  pub sized : size ≡ size_of layout sample
  pub rest : List ℕ
  pub is : bytes ≡ back_bytes layout sample ++ rest

back_joined : (layout : LayoutWords) (size : ℕ) (s : Sample) (bytes : List ℕ) (rs : List Field) (one : OneNumber bytes) (x : IndexRead layout size rs s (drop 8 bytes)) (stack : StackRead one.n x.rest)
    → one.n ≤ 256 → size ≡ fixed_len layout + 24 * one.n → BackRead layout size s bytes
unfolding fields_in
back_joined layout size s bytes rs one x stack few sized =
    let u : Sample = record x.new { branches = stack.branches } in
    let indexes : index_bytes layout x.new ≡ index_bytes layout u = same_bytes layout x.new u (place.HwIndex ∷ []) (refl, tt) in
    let whole : bytes ≡ (le 8 one.n ++ index_bytes layout x.new) ++ (flat_map branch_bytes stack.branches ++ stack.rest) =
    one.is ∙ ap (λ (b : List ℕ). le 8 one.n ++ b) x.is ∙ next (le 8 one.n) (index_bytes layout x.new) x.rest (flat_map branch_bytes stack.branches ++ stack.rest) stack.is in
    record {
      sample = u;
      range = range_with x.new stack.branches x.range stack.range (omega (arith, stack.count, few));
      fits = with_branches layout x.new stack.branches x.fits stack.fit;
      before = x.before;
      misc = x.misc;
      few = omega (arith, stack.count, few);
      sized = sized ∙ ap (λ (n : ℕ). fixed_len layout + 24 * n) (sym stack.count);
      rest = stack.rest;
      is =
          whole
          ∙ sym (append_assoc (le 8 one.n ++ index_bytes layout x.new) (flat_map branch_bytes stack.branches) stack.rest)
          ∙ ap (λ (n : ℕ). ((le 8 n ++ index_bytes layout x.new) ++ flat_map branch_bytes stack.branches) ++ stack.rest) (sym stack.count)
          ∙ ap (λ (b : List ℕ). ((le 8 (length stack.branches) ++ b) ++ flat_map branch_bytes stack.branches) ++ stack.rest) indexes;
    }

pub back_read : (layout : LayoutWords) (size : ℕ) (s : Sample) (bytes : List ℕ) → Fits layout s → IsSample s → AreBytes bytes → back_break layout size bytes ≡ None → BackRead layout size s bytes
unfolding fields_in
back_read layout size s bytes f is are free =
    let found = number_at 0 8 bytes in
    let behind = drop 8 bytes in
    let at = passed layout size (At place.Nr) (index_fields layout ++ branch_fields 0 found) bytes free in
    let one = one_read bytes at.long are in
    let counted : found ≡ one.n = ap (number_at 0 8) one.is ∙ number_read 8 one.n behind one.small in
    let agrees = right_both (nat_le found 256) (nat_eq size (fixed_len layout + 24 * found)) fault.Count fault.Size at.right in
    let few : one.n ≤ 256 = subst (λ (k : ℕ). k ≤ 256) counted (leb-true found 256 agrees.0) in
    let sized : size ≡ fixed_len layout + 24 * one.n = eqb-true size (fixed_len layout + 24 * found) agrees.1 ∙ ap (λ (k : ℕ). fixed_len layout + 24 * k) counted in
    let next_none = ap (λ (k : ℕ). first_of layout size (index_fields layout ++ branch_fields 0 k) behind) (sym counted) ∙ at.none in
    let x = index_read layout size (branch_fields 0 one.n) s behind f is (are_behind 8 bytes are) next_none in
    let stack = stack_read one.n layout size 0 x.rest x.are x.none in
    back_joined layout size s bytes (branch_fields 0 one.n) one x stack few sized

-- a header and the fields are in front of the rest
two_parts : (s t u a b : List ℕ) → s ≡ a ++ t → t ≡ b ++ u → s ≡ (a ++ b) ++ u
two_parts s t u a b is_s is_t =
    is_s ∙ ap (λ (x : List ℕ). a ++ x) is_t ∙ sym (append_assoc a b u)

nr_told : (layout : LayoutWords) (bytes : List ℕ) (h : HeaderRead bytes) (size : ℕ)
    (qs : List Field) (r : RowsRead layout size h.misc 9 qs (drop 8 bytes))
    → number_at (nr_at layout) 8 bytes ≡ number_at 0 8 r.rest
unfolding nr_at number_at
nr_told layout bytes h size qs r =
    let H = any_header h.kind h.misc h.size in
    let R = front_bytes layout r.sample in
    let at : length (H ++ R) ≡ nr_at layout =
    omega (
      arith,
      length-append H R,
      length_header h.kind h.misc h.size,
      length_fields r.sample (fields_in layout before_nr),
    ) in
    ap (λ (b : List ℕ). little_number 8 (drop (nr_at layout) b))
    (two_parts bytes (drop 8 bytes) r.rest H R h.is r.is)
    ∙ ap (little_number 8) (behind (H ++ R) r.rest (nr_at layout) at)

front_joined : (layout : LayoutWords) (bytes : List ℕ) (h : HeaderRead bytes) (size : ℕ)
    (qs : List Field) (r : RowsRead layout size h.misc 9 qs (drop 8 bytes))
    (b : BackRead layout h.size r.sample r.rest) → h.kind ≡ 9
    → AtFront (sample_format layout) bytes
front_joined layout bytes h size qs r b kind =
    let H = header_bytes h.misc h.size in
    let up = up_to_nr layout h.misc h.size r.sample in
    let back = back_bytes layout b.sample in
    let top : bytes ≡ H ++ drop 8 bytes =
    h.is ∙ ap (λ (k : ℕ). any_header k h.misc h.size ++ drop 8 bytes) kind in
    record {
      item = b.sample;
      spelled = up ++ back;
      rest = b.rest;
      range = b.range;
      spells =
          parts_spell layout h.misc h.size r.sample b.sample b.fits b.before
          (sym r.same ∙ sym b.misc) b.few b.sized;
      is =
          two_parts bytes r.rest b.rest up back
          (two_parts bytes (drop 8 bytes) r.rest H (front_bytes layout r.sample) top r.is) b.is;
    }

pub front_read : (layout : LayoutWords) (bytes : List ℕ) → AreBytes bytes
    → first_break layout bytes ≡ None → AtFront (sample_format layout) bytes
unfolding first_break fields_of fields_in
front_read layout bytes are free =
    let told = number_at (nr_at layout) 8 bytes in
    let fs = map At (fields_in layout all_fields) ++ branch_fields 0 told in
    let size = number_at 6 2 bytes in
    let top = passed layout size Header fs bytes free in
    let h = header_of bytes top.long are in
    let right =
    right_both (nat_eq (number_at 0 4 bytes) 9) (is_size layout size) fault.Kind fault.Size
    top.right in
    let kind : h.kind ≡ 9 =
    sym (ap (number_at 0 4) h.is
    ∙ kind_read h.kind h.misc h.size (drop 8 bytes) h.small_kind)
    ∙ eqb-true (number_at 0 4 bytes) 9 right.0 in
    let own : size ≡ h.size =
    ap (number_at 6 2) h.is ∙ size_read h.kind h.misc h.size (drop 8 bytes) h.small_size in
    let none =
    ap (λ (l : List Field). first_of layout size l (drop 8 bytes))
    (sym (fields_split layout told)) ∙ top.none in
    let r =
    rows_read layout size h.misc (nr_fields layout told) (drop 8 bytes) h.small_misc
    (are_behind 8 bytes are) none in
    let rest : back_break layout size r.rest ≡ None =
    ap (λ (n : ℕ). first_of layout size (nr_fields layout n) r.rest)
    (sym (nr_told layout bytes h size (nr_fields layout told) r)) ∙ r.none in
    let behind_it : back_break layout h.size r.rest ≡ None =
    subst (λ (n : ℕ). back_break layout n r.rest ≡ None) own rest in
    front_joined layout bytes h size (nr_fields layout told) r
    (back_read layout h.size r.sample r.rest r.fits r.range r.are behind_it) kind
