-- The fields between the header and the branches, told of any list of them.
use Rattle.std.proofs.Common.{◌≡◌, ◌⊎◌, ℕ, ◌+◌, ◌*◌, ◌<◌, ◌≤◌, List, [], ◌∷◌, ◌++◌, map, length, take, drop, get_or, Bool, true, false, if◌then◌else◌, None, refl, sym, ap, ◌∙◌, subst, arith, inl, inr, append_assoc, append-nil, add-one, length-append, take-append-drop, drop-cons}
use Rattle.std.proofs.lemmas.Bool.{true≢false}
use Rattle.std.proofs.lemmas.Grind.{flat_map-append}
use Rattle.std.proofs.lemmas.List.{take_more}
use Rattle.std.specs.List.{AllByRecursion}
use Rattle.perf_sample.specs.declared.sample.Sample.{Sample}
use Rattle.perf_sample.specs.declared.word.Word.{Word}
use Rattle.perf_sample.specs.declared.word.Word.TheVariants as word
use Rattle.perf_sample.specs.declared.faults.Place.{Place}
use Rattle.perf_sample.specs.declared.faults.Place.TheVariants as place
use Rattle.perf_sample.specs.Word.{IsZero, InWidth}
use Rattle.perf_sample.specs.Fields.{word_of}
use Rattle.perf_sample.specs.Layout.{LayoutWords, has, fields_in, LeftOut}
use Rattle.perf_sample.specs.Fields.{before_nr, all_fields}
use Rattle.perf_sample.specs.Spelling.{le, word_bytes, place_bytes, fields_bytes}
use Rattle.perf_sample.specs.Breaks.{Field, At, wrong_in, first_of}
use Rattle.perf_sample.specs.Front.{SameWord}
use Rattle.perf_sample.proofs.BreakLaws.{passes, length_le}

pub length_word : (w : Word) → length (word_bytes w) ≡ 8
length_word (word.Whole n) = length_le 8 n
length_word (word.Halves m n) = omega (arith, length-append (le 4 m) (le 4 n), length_le 4 m, length_le 4 n)

pub length_fields : (s : Sample) (ps : List Place) → length (fields_bytes s ps) ≡ 8 * length ps
length_fields s [] = refl
length_fields s (p ∷ ps) =
    omega (arith, length-append (place_bytes p s) (fields_bytes s ps), length_word (word_of p s), length_fields s ps)

pub in_none : (layout : LayoutWords) → fields_in layout [] ≡ []
unfolding fields_in
in_none layout = refl

pub in_append : (layout : LayoutWords) (ps qs : List Place) → fields_in layout (ps ++ qs) ≡ fields_in layout ps ++ fields_in layout qs
unfolding fields_in
in_append layout [] qs = refl
in_append layout (p ∷ ps) qs =
    elim (has layout p) as (λ (b : Bool).
    (if b then p ∷ fields_in layout (ps ++ qs) else fields_in layout (ps ++ qs))
    ≡ (if b then p ∷ fields_in layout ps else fields_in layout ps) ++ fields_in layout qs) [
      | true ↦ ap (λ (l : List Place). p ∷ l) (in_append layout ps qs)
      | false ↦ in_append layout ps qs
    ]

pub in_most : (layout : LayoutWords) (ps : List Place) → length (fields_in layout ps) ≤ length ps
unfolding fields_in
in_most layout [] = omega arith
in_most layout (p ∷ ps) =
    elim (has layout p) as (λ (b : Bool). length (if b then p ∷ fields_in layout ps else fields_in layout ps) ≤ length (p ∷ ps)) [
      | true ↦ omega (arith, in_most layout ps)
      | false ↦ omega (arith, in_most layout ps)
    ]

there_by : (b : Bool) (p : Place) → b ≡ true → (if b then p ∷ [] else []) ≡ p ∷ []
there_by true p e = refl
there_by false p e = absurd (true≢false (sym e))

pub in_there : (layout : LayoutWords) (p : Place) → has layout p ≡ true → fields_in layout (p ∷ []) ≡ p ∷ []
unfolding fields_in
in_there layout p on = there_by (has layout p) p on

out_by : (b : Bool) (p : Place) → b ≡ false → (if b then p ∷ [] else []) ≡ []
out_by true p e = absurd (true≢false e)
out_by false p e = refl

pub in_left_out : (layout : LayoutWords) (p : Place) → has layout p ≡ false → fields_in layout (p ∷ []) ≡ []
unfolding fields_in
in_left_out layout p off = out_by (has layout p) p off

-- one field more
pub in_more : (layout : LayoutWords) (ps : List Place) (n : ℕ) (d : Place) → n < length ps
    → fields_in layout (take (n + 1) ps) ≡ fields_in layout (take n ps) ++ fields_in layout (get_or ps n d ∷ [])
in_more layout ps n d within =
    ap (fields_in layout) (take_more ps n d within) ∙ in_append layout (take n ps) (get_or ps n d ∷ [])

pub in_more_there : (layout : LayoutWords) (ps : List Place) (n : ℕ) (d : Place) → n < length ps → has layout (get_or ps n d) ≡ true
    → fields_in layout (take (n + 1) ps) ≡ fields_in layout (take n ps) ++ (get_or ps n d ∷ [])
in_more_there layout ps n d within on =
    in_more layout ps n d within ∙ ap (λ (l : List Place). fields_in layout (take n ps) ++ l) (in_there layout (get_or ps n d) on)

pub in_more_out : (layout : LayoutWords) (ps : List Place) (n : ℕ) (d : Place) → n < length ps → has layout (get_or ps n d) ≡ false
    → fields_in layout (take (n + 1) ps) ≡ fields_in layout (take n ps)
in_more_out layout ps n d within off =
    in_more layout ps n d within
    ∙ ap (λ (l : List Place). fields_in layout (take n ps) ++ l) (in_left_out layout (get_or ps n d) off)
    ∙ append-nil (fields_in layout (take n ps))

-- the bytes of one field more
pub bytes_there : (layout : LayoutWords) (s : Sample) (ps : List Place) (n : ℕ) (d : Place) → n < length ps → has layout (get_or ps n d) ≡ true
    → fields_bytes s (fields_in layout (take (n + 1) ps)) ≡ fields_bytes s (fields_in layout (take n ps)) ++ place_bytes (get_or ps n d) s
bytes_there layout s ps n d within on =
    ap (fields_bytes s) (in_more_there layout ps n d within on)
    ∙ flat_map-append (λ p. place_bytes p s) (fields_in layout (take n ps)) (get_or ps n d ∷ [])
    ∙ ap (λ (l : List ℕ). fields_bytes s (fields_in layout (take n ps)) ++ l) (append-nil (place_bytes (get_or ps n d) s))

pub bytes_out : (layout : LayoutWords) (s : Sample) (ps : List Place) (n : ℕ) (d : Place) → n < length ps → has layout (get_or ps n d) ≡ false
    → fields_bytes s (fields_in layout (take (n + 1) ps)) ≡ fields_bytes s (fields_in layout (take n ps))
bytes_out layout s ps n d within off = ap (fields_bytes s) (in_more_out layout ps n d within off)

pub length_there : (layout : LayoutWords) (ps : List Place) (n : ℕ) (d : Place) → n < length ps → has layout (get_or ps n d) ≡ true
    → length (fields_in layout (take (n + 1) ps)) ≡ length (fields_in layout (take n ps)) + 1
length_there layout ps n d within on =
    ap length (in_more_there layout ps n d within on) ∙ length-append (fields_in layout (take n ps)) (get_or ps n d ∷ [])

-- samples with the same words have the same bytes
pub same_bytes : (layout : LayoutWords) (s t : Sample) (ps : List Place) → AllByRecursion (SameWord s t) ps
    → fields_bytes s (fields_in layout ps) ≡ fields_bytes t (fields_in layout ps)
unfolding fields_in
same_bytes layout s t [] same = refl
same_bytes layout s t (p ∷ ps) (here, more) =
    let rest = fields_in layout ps in
    elim (has layout p) as (λ (b : Bool). fields_bytes s (if b then p ∷ rest else rest) ≡ fields_bytes t (if b then p ∷ rest else rest)) [
      | true ↦
          ap (λ (w : Word). word_bytes w ++ fields_bytes s rest) here
          ∙ ap (λ (l : List ℕ). place_bytes p t ++ l) (same_bytes layout s t ps more)
      | false ↦ same_bytes layout s t ps more
    ]

-- the value of a field is right, whatever follows it
abbrev pub IsRight : LayoutWords → ℕ → Sample → Place → Type 0
IsRight layout size s p = (z : List ℕ) → wrong_in layout size (At p) (place_bytes p s ++ z) ≡ None

-- fields with right values are passed over
pub fields_pass : (layout : LayoutWords) (size : ℕ) (s : Sample) (ps : List Place) (qs : List Field) (z : List ℕ) → AllByRecursion (IsRight layout size s) ps
    → first_of layout size (map At (fields_in layout ps) ++ qs) (fields_bytes s (fields_in layout ps) ++ z) ≡ first_of layout size qs z
unfolding fields_in
fields_pass layout size s [] qs z right = refl
fields_pass layout size s (p ∷ ps) qs z (here, more) =
    let rest = fields_in layout ps in
    elim (has layout p) as (λ (b : Bool).
    first_of layout size (map At (if b then p ∷ rest else rest) ++ qs) (fields_bytes s (if b then p ∷ rest else rest) ++ z)
    ≡ first_of layout size qs z) [
      | true ↦
          ap (first_of layout size (At p ∷ (map At rest ++ qs))) (append_assoc (place_bytes p s) (fields_bytes s rest) z)
          ∙ passes layout size (At p) (map At rest ++ qs) (place_bytes p s) (fields_bytes s rest ++ z) (length_word (word_of p s)) (here (fields_bytes s rest ++ z))
          ∙ fields_pass layout size s ps qs z more
      | false ↦ fields_pass layout size s ps qs z more
    ]

-- all fields are those before the number of branches, that number, and the hardware index
pub all_split : (layout : LayoutWords) → fields_in layout all_fields ≡ fields_in layout before_nr ++ (place.Nr ∷ fields_in layout (place.HwIndex ∷ []))
unfolding fields_in
all_split layout = in_append layout before_nr (place.Nr ∷ place.HwIndex ∷ [])

-- the fields from this one on
pub in_drop : (layout : LayoutWords) (ps : List Place) (n : ℕ) (d : Place) → n < length ps
    → fields_in layout (drop n ps) ≡ fields_in layout (get_or ps n d ∷ []) ++ fields_in layout (drop (n + 1) ps)
in_drop layout ps n d within =
    let behind : drop n ps ≡ get_or ps n d ∷ drop (n + 1) ps = rw (add-one n) (drop-cons ps n d within) in
    ap (fields_in layout) behind ∙ in_append layout (get_or ps n d ∷ []) (drop (n + 1) ps)

pub in_drop_there : (layout : LayoutWords) (ps : List Place) (n : ℕ) (d : Place) → n < length ps → has layout (get_or ps n d) ≡ true
    → fields_in layout (drop n ps) ≡ get_or ps n d ∷ fields_in layout (drop (n + 1) ps)
in_drop_there layout ps n d within on =
    in_drop layout ps n d within ∙ ap (λ (l : List Place). l ++ fields_in layout (drop (n + 1) ps)) (in_there layout (get_or ps n d) on)

pub in_drop_out : (layout : LayoutWords) (ps : List Place) (n : ℕ) (d : Place) → n < length ps → has layout (get_or ps n d) ≡ false
    → fields_in layout (drop n ps) ≡ fields_in layout (drop (n + 1) ps)
in_drop_out layout ps n d within off =
    in_drop layout ps n d within ∙ ap (λ (l : List Place). l ++ fields_in layout (drop (n + 1) ps)) (in_left_out layout (get_or ps n d) off)

-- fields before one of them that is there, and behind it
pub in_split : (layout : LayoutWords) (ps : List Place) (n : ℕ) (d : Place) → n < length ps → has layout (get_or ps n d) ≡ true
    → fields_in layout ps ≡ fields_in layout (take n ps) ++ (get_or ps n d ∷ fields_in layout (drop (n + 1) ps))
in_split layout ps n d within on =
    ap (fields_in layout) (sym (take-append-drop n ps))
    ∙ in_append layout (take n ps) (drop n ps)
    ∙ ap (λ (l : List Place). fields_in layout (take n ps) ++ l) (in_drop_there layout ps n d within on)

-- a field that changed is there, and the others did not change
abbrev pub SameBut : Place → Sample → Sample → Place → Type 0
SameBut p old new q = (q ≡ p) ⊎ SameWord old new q

pub left_out_kept : (layout : LayoutWords) (p : Place) (old new : Sample) (ps : List Place) → has layout p ≡ true → AllByRecursion (SameBut p old new) ps
    → AllByRecursion (LeftOut layout old) ps → AllByRecursion (LeftOut layout new) ps
left_out_kept layout p old new [] on same out = tt
left_out_kept layout p old new (q ∷ ps) on (here, more) (first, rest) = (
  elim here [
    | inl e ↦ λ off. absurd (true≢false (sym on ∙ ap (has layout) (sym e) ∙ off))
    | inr e ↦ λ off. subst IsZero e (first off)
  ],
  left_out_kept layout p old new ps on more rest,
)

pub widths_kept : (p : Place) (old new : Sample) (ps : List Place) → InWidth (word_of p new) → AllByRecursion (SameBut p old new) ps
    → AllByRecursion (λ q. InWidth (word_of q old)) ps → AllByRecursion (λ q. InWidth (word_of q new)) ps
widths_kept p old new [] small same is = tt
widths_kept p old new (q ∷ ps) small (here, more) (first, rest) = (
  elim here [
    | inl e ↦ subst (λ (r : Place). InWidth (word_of r new)) (sym e) small
    | inr e ↦ subst InWidth e first
  ],
  widths_kept p old new ps small more rest,
)

-- what holds of some fields and of others holds of both
pub all_of_both : (P : Place → Type 0) (ps qs : List Place) → AllByRecursion P ps
    → AllByRecursion P qs → AllByRecursion P (ps ++ qs)
all_of_both P [] qs none more = more
all_of_both P (p ∷ ps) qs (here, rest) more = (here, all_of_both P ps qs rest more)
