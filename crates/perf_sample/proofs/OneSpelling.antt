-- Bytes begin with the spelling of one sample at most, and then they have no break.
use Rattle.std.proofs.Common.{rules, ◌≡◌, ℕ, ◌+◌, ◌*◌, ◌-◌, ◌%◌, ◌^◌, ◌<◌, ◌≤◌, List, [], ◌∷◌, ◌++◌, length, take, drop, Bool, true, false, if◌then◌else◌, nat_le, nat_eq, None, refl, sym, ap, ◌∙◌, arith, append_assoc, length-append}
use Rattle.std.proofs.Math.Seq.{take-append_seam, drop-append_seam}
use Rattle.std.proofs.lemmas.Bool.{le-leb, eq-eqb, true≢false}
use Rattle.std.proofs.lemmas.List.Elements.{All-head, All-tail}
use Rattle.std.specs.List.{All, AllByRecursion, flat_map}
use Rattle.perf_sample.specs.declared.sample.Branch.{Branch}
use Rattle.perf_sample.specs.declared.sample.Sample.{Sample}
use Rattle.perf_sample.specs.Layout.{LayoutWords, has, fields_in, fixed_len, LeftOut, Fits}
use Rattle.perf_sample.specs.Fields.{all_fields}
use Rattle.perf_sample.specs.Word.{IsZero, InWidth}
use Rattle.perf_sample.specs.Fields.{word_of}
use Rattle.perf_sample.specs.Spelling.{le, word_bytes, place_bytes, fields_bytes, header_bytes, branch_bytes, size_of, spelling, Spells}
use Rattle.perf_sample.specs.Breaks.{number_at, is_size, first_break}
use Rattle.perf_sample.specs.Format.{OfRead, OfCount}
use Rattle.perf_sample.specs.Reading.{cause_of, sample_format}
use Rattle.perf_sample.specs.declared.faults.SampleFault.{SampleFault}
use Rattle.perf_sample.specs.declared.faults.SampleFault.TheVariants as fault
use Rattle.perf_sample.proofs.ExactLaws.{IsExact}
use Rattle.perf_sample.specs.BranchRange.{IsBranch}
use Rattle.perf_sample.specs.Sample.{IsSample}
use Rattle.perf_sample.specs.Front.{SameWord}
use Rattle.perf_sample.specs.Fields.{low_of, high_of}
use Rattle.perf_sample.specs.declared.word.Word.{Word}
use Rattle.perf_sample.specs.declared.word.Word.TheVariants as word
use Rattle.perf_sample.specs.declared.faults.Place.{Place}
use Rattle.perf_sample.proofs.BreakLaws.{length_le, number_read}
use Rattle.perf_sample.specs.Back.{back_bytes}
use Rattle.perf_sample.proofs.PartLaws.{back_passes}
use Rattle.perf_sample.proofs.SampleLaws.{up_to_nr, behind_front, spelling_is}
use Rattle.perf_sample.proofs.FieldLaws.{length_word, length_fields}
use Rattle.perf_sample.proofs.SpellingLaws.{length_branches, length_spelling, fixed_most, size_at, length_told, size_stays}

-- the size of a sample is one that a sample may have
right_size : (layout : LayoutWords) (nr : ℕ) → nr ≤ 256 → is_size layout (fixed_len layout + 24 * nr) ≡ true
right_size layout nr few =
    let f = fixed_len layout in
    let low : nat_le f (f + 24 * nr) ≡ true = le-leb f (f + 24 * nr) (omega arith) in
    let high : nat_le (f + 24 * nr) (f + 24 * 256) ≡ true = le-leb (f + 24 * nr) (f + 24 * 256) (omega (arith, few)) in
    let whole : nat_eq ((f + 24 * nr - f) % 24) 0 ≡ true = eq-eqb ((f + 24 * nr - f) % 24) 0 (omega arith) in
    rw (low, high, whole) refl

-- a spelling has no break
pub spelled_whole : (layout : LayoutWords) (s : Sample) (x z : List ℕ) → Spells layout s x
    → first_break layout (x ++ z) ≡ None
spelled_whole layout s x z spells =
    let size = size_of layout s in
    let up = up_to_nr layout s.misc size s in
    let small : size < 2 ^ 16 = omega (arith, fixed_most layout, spells.few) in
    ap (λ (b : List ℕ). first_break layout (b ++ z)) (spells.bytes_are ∙ spelling_is layout s)
    ∙ ap (first_break layout) (append_assoc up (back_bytes layout s) z)
    ∙ behind_front layout s.misc size s (back_bytes layout s ++ z) small
    (right_size layout (length s.branches) spells.few)
    ∙ back_passes layout s z spells.few spells.fits.flags

-- parts of the same length at the front, or at the back
pub cut_front : (a b c d : List ℕ) → length a ≡ length b → a ++ c ≡ b ++ d → (a ≡ b) × (c ≡ d)
cut_front a b c d len e = (
  sym (take-append_seam a c) ∙ ap (take (length a)) e ∙ ap (λ (n : ℕ). take n (b ++ d)) len ∙ take-append_seam b d,
  sym (drop-append_seam a c) ∙ ap (drop (length a)) e ∙ ap (λ (n : ℕ). drop n (b ++ d)) len ∙ drop-append_seam b d,
)

pub cut_back : (a b c d : List ℕ) → length c ≡ length d → a ++ c ≡ b ++ d → (a ≡ b) × (c ≡ d)
cut_back a b c d len e = cut_front a b c d (omega (arith, len, ap length e, length-append a c, length-append b d)) e

-- numbers with the same bytes
pub le_same : (k m n : ℕ) → m < 256 ^ k → n < 256 ^ k → le k m ≡ le k n → m ≡ n
le_same k m n hm hn e = sym (number_read k m [] hm) ∙ ap (λ (b : List ℕ). number_at 0 k (b ++ [])) e ∙ number_read k n [] hn

-- words of the same form, told by their bytes
abbrev is_whole : Word → Bool
is_whole (word.Whole n) = true
is_whole (word.Halves m n) = false

word_same : (w v : Word) → is_whole w ≡ is_whole v → InWidth w → InWidth v → word_bytes w ≡ word_bytes v → w ≡ v
word_same (word.Whole m) (word.Whole n) form is it e = ap word.Whole (le_same 8 m n is it e)
word_same (word.Whole m) (word.Halves p q) form is it e = absurd (true≢false form)
word_same (word.Halves m n) (word.Whole p) form is it e = absurd (true≢false (sym form))
word_same (word.Halves m n) (word.Halves p q) form (m_is, n_is) (p_is, q_is) e =
    let parts = cut_front (le 4 m) (le 4 p) (le 4 n) (le 4 q) (length_le 4 m ∙ sym (length_le 4 p)) e in
    ap (λ (k : ℕ). word.Halves k n) (le_same 4 m p m_is p_is parts.0) ∙ ap (word.Halves p) (le_same 4 n q n_is q_is parts.1)

both_zero : (w v : Word) → is_whole w ≡ is_whole v → IsZero w → IsZero v → w ≡ v
both_zero (word.Whole m) (word.Whole n) form a b = ap word.Whole (a ∙ sym b)
both_zero (word.Whole m) (word.Halves p q) form a b = absurd (true≢false form)
both_zero (word.Halves m n) (word.Whole p) form a b = absurd (true≢false (sym form))
both_zero (word.Halves m n) (word.Halves p q) form (a, b) (c, d) =
    ap (λ (k : ℕ). word.Halves k n) (a ∙ sym c) ∙ ap (word.Halves p) (b ∙ sym d)

abbrev SameForm : Sample → Sample → Place → Type 0
SameForm s t p = is_whole (word_of p s) ≡ is_whole (word_of p t)

-- samples with the same bytes have the same words
words_same : (layout : LayoutWords) (s t : Sample) (ps : List Place) → AllByRecursion (SameForm s t) ps
    → AllByRecursion (LeftOut layout s) ps → AllByRecursion (LeftOut layout t) ps
    → AllByRecursion (λ p. InWidth (word_of p s)) ps → AllByRecursion (λ p. InWidth (word_of p t)) ps
    → fields_bytes s (fields_in layout ps) ≡ fields_bytes t (fields_in layout ps) → AllByRecursion (SameWord s t) ps
unfolding fields_in
words_same layout s t [] form f g is it e = tt
words_same layout s t (p ∷ ps) (form, forms) (f, fs) (g, gs) (is, iss) (it, its) e =
    let rest = fields_in layout ps in
    elim (has layout p) as (λ (b : Bool).
    (b ≡ false → IsZero (word_of p s)) → (b ≡ false → IsZero (word_of p t))
    → fields_bytes s (if b then p ∷ rest else rest) ≡ fields_bytes t (if b then p ∷ rest else rest)
    → SameWord s t p × AllByRecursion (SameWord s t) ps) [
      | true ↦ λ f g e.
          let parts = cut_front (place_bytes p s) (place_bytes p t) (fields_bytes s rest) (fields_bytes t rest)
          (length_word (word_of p s) ∙ sym (length_word (word_of p t))) e in
          (word_same (word_of p s) (word_of p t) form is it parts.0, words_same layout s t ps forms fs gs iss its parts.1)
      | false ↦ λ f g e.
          (both_zero (word_of p s) (word_of p t) form (f refl) (g refl), words_same layout s t ps forms fs gs iss its e)
    ] f g e

abbrev pub the_branch : ℕ → ℕ → ℕ → Branch
the_branch from to flags = record { from = from; to = to; flags = flags }

abbrev the_sample : ℕ → ℕ → ℕ → ℕ → ℕ → ℕ → ℕ → ℕ → ℕ → ℕ → ℕ → ℕ → List Branch → Sample
the_sample misc identifier ip pid tid time addr id stream_id cpu period hw_index branches = record {
  misc = misc;
  identifier = identifier;
  ip = ip;
  pid = pid;
  tid = tid;
  time = time;
  addr = addr;
  id = id;
  stream_id = stream_id;
  cpu = cpu;
  period = period;
  hw_index = hw_index;
  branches = branches;
}

branch_same : (b c : Branch) (x y : List ℕ) → IsBranch b → IsBranch c → branch_bytes b ++ x ≡ branch_bytes c ++ y → (b ≡ c) × (x ≡ y)
branch_same b c x y is it e =
    let len : length (branch_bytes b) ≡ length (branch_bytes c) =
    omega (
      arith,
      length-append (le 8 b.from ++ le 8 b.to) (le 8 b.flags),
      length-append (le 8 b.from) (le 8 b.to),
      length-append (le 8 c.from ++ le 8 c.to) (le 8 c.flags),
      length-append (le 8 c.from) (le 8 c.to),
      length_le 8 b.from,
      length_le 8 b.to,
      length_le 8 b.flags,
      length_le 8 c.from,
      length_le 8 c.to,
      length_le 8 c.flags,
    ) in
    let parts = cut_front (branch_bytes b) (branch_bytes c) x y len e in
    let last = cut_back (le 8 b.from ++ le 8 b.to) (le 8 c.from ++ le 8 c.to) (le 8 b.flags) (le 8 c.flags) (length_le 8 b.flags ∙ sym (length_le 8 c.flags)) parts.0 in
    let first = cut_back (le 8 b.from) (le 8 c.from) (le 8 b.to) (le 8 c.to) (length_le 8 b.to ∙ sym (length_le 8 c.to)) last.0 in
    let from = le_same 8 b.from c.from is.from it.from first.0 in
    let to = le_same 8 b.to c.to is.to it.to first.1 in
    let flags = le_same 8 b.flags c.flags is.flags it.flags last.1 in
    let same : b ≡ c = ap (λ (n : ℕ). the_branch n b.to b.flags) from ∙ ap (λ (n : ℕ). the_branch c.from n b.flags) to ∙ ap (λ (n : ℕ). the_branch c.from c.to n) flags in
    (same, parts.1)

branches_same : (bs cs : List Branch) → length bs ≡ length cs → All IsBranch bs → All IsBranch cs → flat_map branch_bytes bs ≡ flat_map branch_bytes cs → bs ≡ cs
branches_same [] [] len is it e = refl
branches_same [] (c ∷ cs) len is it e = absurd (omega (arith, len))
branches_same (b ∷ bs) [] len is it e = absurd (omega (arith, len))
branches_same (b ∷ bs) (c ∷ cs) len is it e =
    let first = branch_same b c (flat_map branch_bytes bs) (flat_map branch_bytes cs) (All-head IsBranch b bs is) (All-head IsBranch c cs it) e in
    let rest = branches_same bs cs (omega (arith, len)) (All-tail IsBranch b bs is) (All-tail IsBranch c cs it) first.1 in
    ap (λ (x : Branch). x ∷ bs) first.0 ∙ ap (λ (l : List Branch). c ∷ l) rest

-- a sample is its misc, its words and its branches
sample_same : (s t : Sample) → s.misc ≡ t.misc → AllByRecursion (SameWord s t) all_fields → s.branches ≡ t.branches → s ≡ t
sample_same s t misc (a, (b, (c, (d, (e, (f, (g, (h, (i, (n, (x, all))))))))))) branches =
    let ia : s.identifier ≡ t.identifier = ap low_of a in
    let ib : s.ip ≡ t.ip = ap low_of b in
    let ic : s.pid ≡ t.pid = ap low_of c in
    let jc : s.tid ≡ t.tid = ap high_of c in
    let id : s.time ≡ t.time = ap low_of d in
    let ie : s.addr ≡ t.addr = ap low_of e in
    let if_ : s.id ≡ t.id = ap low_of f in
    let ig : s.stream_id ≡ t.stream_id = ap low_of g in
    let ih : s.cpu ≡ t.cpu = ap low_of h in
    let ii : s.period ≡ t.period = ap low_of i in
    let ix : s.hw_index ≡ t.hw_index = ap low_of x in
    let made : the_sample s.misc s.identifier s.ip s.pid s.tid s.time s.addr s.id s.stream_id s.cpu s.period s.hw_index s.branches
    ≡ the_sample t.misc t.identifier t.ip t.pid t.tid t.time t.addr t.id t.stream_id t.cpu t.period t.hw_index t.branches =
    rw (misc, ia, ib, ic, jc, id, ie, if_, ig, ih, ii, ix, branches) refl in made

-- samples with the same spelling are the same
spelling_same : (layout : LayoutWords) (s t : Sample) → Fits layout s → Fits layout t → IsSample s → IsSample t → length s.branches ≤ 256 → length t.branches ≤ 256 → spelling layout s ≡ spelling layout t → s ≡ t
unfolding spelling
spelling_same layout s t f g is it few less e =
    let size = size_of layout s in
    let other = size_of layout t in
    let sizes : size ≡ other = sym (length_spelling layout s) ∙ ap length e ∙ length_spelling layout t in
    let counts : length s.branches ≡ length t.branches = omega (arith, sizes) in
    let h_s = header_bytes s.misc size in
    let h_t = header_bytes t.misc other in
    let all = fields_in layout all_fields in
    let stacks : length (flat_map branch_bytes s.branches) ≡ length (flat_map branch_bytes t.branches) = omega (arith, length_branches s.branches, length_branches t.branches, counts) in
    let last = cut_back (h_s ++ fields_bytes s all) (h_t ++ fields_bytes t all) (flat_map branch_bytes s.branches) (flat_map branch_bytes t.branches) stacks e in
    let second = cut_back h_s h_t (fields_bytes s all) (fields_bytes t all) (length_fields s all ∙ sym (length_fields t all)) last.0 in
    let first = cut_back (le 4 9 ++ le 2 s.misc) (le 4 9 ++ le 2 t.misc) (le 2 size) (le 2 other) (length_le 2 size ∙ sym (length_le 2 other)) second.0 in
    let misc = cut_front (le 4 9) (le 4 9) (le 2 s.misc) (le 2 t.misc) refl first.0 in
    let forms : AllByRecursion (SameForm s t) all_fields = search rules in
    sample_same s t (le_same 2 s.misc t.misc is.misc it.misc misc.1) (words_same layout s t all_fields forms f.left_out g.left_out is.fields it.fields second.1)
    (branches_same s.branches t.branches counts is.branches it.branches last.1)

-- bytes begin with one spelling at most
pub one_length : (layout : LayoutWords) (s t : Sample) (x y z w : List ℕ) → Spells layout s x → Spells layout t y → x ++ z ≡ y ++ w → (x ≡ y) × (z ≡ w)
unfolding fixed_len
one_length layout s t x y z w first second e =
    let long : 8 ≤ length x = omega (arith, ap length first.bytes_are, length_spelling layout s) in
    let much : 8 ≤ length y = omega (arith, ap length second.bytes_are, length_spelling layout t) in
    let len : length x ≡ length y = length_told layout s x first ∙ sym (size_stays x z long) ∙ ap size_at e ∙ size_stays y w much ∙ sym (length_told layout t y second) in
    cut_front x y z w len e

-- and of one sample
pub one_spelling : (layout : LayoutWords) (s t : Sample) (x y z w : List ℕ) → IsSample s → IsSample t → Spells layout s x → Spells layout t y → x ++ z ≡ y ++ w → (s ≡ t) × (x ≡ y) × (z ≡ w)
one_spelling layout s t x y z w is it first second e =
    let parts = one_length layout s t x y z w first second e in
    (spelling_same layout s t first.fits second.fits is it first.few second.few (sym first.bytes_are ∙ parts.0 ∙ second.bytes_are), parts.0, parts.1)

of_read : (f : SampleFault) → cause_of f ≡ OfRead → f ≡ fault.ReadFault
of_read fault.ReadFault e = refl
of_read fault.Header e = absurd cc
of_read fault.Kind e = absurd cc
of_read fault.Size e = absurd cc
of_read (fault.Short p) e = absurd cc
of_read fault.CpuReserved e = absurd cc
of_read fault.Count e = absurd cc
of_read (fault.FlagReserved i) e = absurd cc
of_read fault.TooMany e = absurd cc

of_count : (f : SampleFault) → cause_of f ≡ OfCount → f ≡ fault.TooMany
of_count fault.TooMany e = refl
of_count fault.Header e = absurd cc
of_count fault.Kind e = absurd cc
of_count fault.Size e = absurd cc
of_count (fault.Short p) e = absurd cc
of_count fault.CpuReserved e = absurd cc
of_count fault.Count e = absurd cc
of_count (fault.FlagReserved i) e = absurd cc
of_count fault.ReadFault e = absurd cc

pub spelled_some : (layout : LayoutWords) (s : Sample) (x : List ℕ) → Spells layout s x
    → 0 < length x
unfolding fixed_len
spelled_some layout s x spells =
    omega (arith, ap length spells.bytes_are, length_spelling layout s)

-- samples are told apart
pub samples_exact : (layout : LayoutWords) → IsExact (sample_format layout)
samples_exact layout = record {
  kinds = record { of_read = of_read; of_count = of_count };
  some = spelled_some layout;
  whole = spelled_whole layout;
  one_length = λ s t x y z w first second e.
      (one_length layout s t x y z w first second e).0;
  one = λ s t x y z w is it first second e.
      (one_spelling layout s t x y z w is it first second e).0;
}
