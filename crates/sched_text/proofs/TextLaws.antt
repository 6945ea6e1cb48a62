-- Lines in hand are lines of the text.
use Rattle.std.proofs.Common.{◌≡◌, ℕ, zero, suc, List, [], ◌∷◌, ◌++◌, if◌then◌else◌, Bool, false, true, Option, None, Some, refl, sym, ap, ◌∙◌, subst, append-nil, eqb}
use Rattle.std.proofs.lemmas.Bool.{true≢false}
use Rattle.std.specs.Io.KnownBytes.{IsAtEnd}
use Rattle.ctr_port.specs.InHand.{text_of, Same, Of}
use Rattle.sched_text.specs.Lines.{LineCut, Line, Long, Open, put_front, line_within, line_at}
use Rattle.sched_text.specs.InHand.{is_open}

-- a cut of a longer text
abbrev extend : List ℕ → LineCut → LineCut
extend xs (Line line rest) = Line line (rest ++ xs)
extend xs Long = Long
extend xs Open = Open

open_front : (b : ℕ) (c : LineCut) → is_open (put_front b c) ≡ is_open c
open_front b (Line line rest) = refl
open_front b Long = refl
open_front b Open = refl

extend_front : (xs : List ℕ) (b : ℕ) (c : LineCut) → extend xs (put_front b c) ≡ put_front b (extend xs c)
extend_front xs b (Line line rest) = refl
extend_front xs b Long = refl
extend_front xs b Open = refl

abbrev cut_by : Bool → ℕ → ℕ → List ℕ → LineCut
cut_by true b room text = Line [] text
cut_by false b room text = put_front b (line_within room text)

by_test : (room b : ℕ) (text : List ℕ) → line_within (suc room) (b ∷ text) ≡ cut_by (eqb b 10) b room text
unfolding line_within
by_test room b text = elim (eqb b 10) as (λ (t : Bool). (if t then Line [] text else put_front b (line_within room text)) ≡ cut_by t b room text) [ true ↦ refl | false ↦ refl ]

goes_on_by : (t : Bool) (b room : ℕ) (hand xs : List ℕ) → (is_open (line_within room hand) ≡ false → line_within room (hand ++ xs) ≡ extend xs (line_within room hand))
    → is_open (cut_by t b room hand) ≡ false → cut_by t b room (hand ++ xs) ≡ extend xs (cut_by t b room hand)
goes_on_by true b room hand xs more h = refl
goes_on_by false b room hand xs more h =
    ap (put_front b) (more (sym (open_front b (line_within room hand)) ∙ h)) ∙ sym (extend_front xs b (line_within room hand))

-- what isn't open stays as it is when more bytes follow
goes_on : (room : ℕ) (hand xs : List ℕ) → is_open (line_within room hand) ≡ false → line_within room (hand ++ xs) ≡ extend xs (line_within room hand)
unfolding line_within
goes_on zero hand xs h = refl
goes_on (suc room) [] xs h = absurd (true≢false h)
goes_on (suc room) (b ∷ hand) xs h =
    by_test room b (hand ++ xs)
    ∙ goes_on_by (eqb b 10) b room hand xs (goes_on room hand xs) (subst (λ (c : LineCut). is_open c ≡ false) (by_test room b hand) h)
    ∙ ap (extend xs) (sym (by_test room b hand))

-- a line in hand is the text's first line
pub line_given : (hand0 hand line rest : List ℕ) (left0 left : Option (List ℕ)) → Same hand0 left0 hand left → line_at hand ≡ Line line rest
    → Of (text_of hand0 left0) (text_of rest left) (λ t t'. line_at t ≡ Line line t')
line_given hand0 hand line rest None left p e = tt
line_given hand0 hand line rest (Some xs) None p e = absurd p
line_given hand0 hand line rest (Some xs) (Some ys) p e =
    ap line_at (sym p) ∙ goes_on 256 hand ys (ap is_open e) ∙ ap (extend ys) e

-- 256 bytes in hand without an LF are the text's first
pub long_given : (hand0 hand : List ℕ) (left0 left : Option (List ℕ)) → Same hand0 left0 hand left → line_at hand ≡ Long
    → Of (text_of hand0 left0) (text_of hand left) (λ t t'. line_at t ≡ Long)
long_given hand0 hand None left p e = tt
long_given hand0 hand (Some xs) None p e = absurd p
long_given hand0 hand (Some xs) (Some ys) p e =
    ap line_at (sym p) ∙ goes_on 256 hand ys (ap is_open e) ∙ ap (extend ys) e

-- the bytes in hand are all
pub open_given : (hand0 hand : List ℕ) (left0 left : Option (List ℕ)) → Same hand0 left0 hand left → line_at hand ≡ Open → IsAtEnd left
    → Of (text_of hand0 left0) (text_of hand left) (λ t t'. line_at t ≡ Open)
open_given hand0 hand None left p e end = tt
open_given hand0 hand (Some xs) None p e end = absurd p
open_given hand0 hand (Some xs) (Some ys) p e end =
    ap line_at (sym p ∙ ap (λ (t : List ℕ). hand ++ t) end ∙ append-nil hand) ∙ e
