-- The first line of a text, byte by byte.
use Rattle.std.proofs.Common.{◌≡◌, ◌≢◌, ℕ, zero, suc, ◌+◌, ◌-◌, ◌<◌, ◌≤◌, List, [], ◌∷◌, ◌++◌, length, take, drop, slice_index, eqb, if◌then◌else◌, Bool, false, true, refl, subst, length-append, sym, ap, ◌∙◌, append_assoc, append-nil, arith, add-one, drop-cons}
use Rattle.std.proofs.Common.{inl, inr}
use Rattle.std.proofs.lemmas.Bool.{eq-eqb}
use Rattle.std.proofs.lemmas.Bool.Decides.{eqb_tells}
use Rattle.std.proofs.lemmas.List.{take_more, drop_all, length-take-le}
use Rattle.sched_text.specs.Lines.{LineCut, Line, Long, Open, put_front, line_within, line_at}
use Rattle.sched_text.specs.InHand.{under}
use Rattle.sched_text.specs.declared.limits.TheConstants.{LINE_LIMIT}

under_front : (front : List ℕ) (b : ℕ) (c : LineCut) → under front (put_front b c) ≡ under (front ++ b ∷ []) c
under_front front b (Line line rest) = ap (λ (x : List ℕ). Line x rest) (sym (append_assoc front (b ∷ []) line))
under_front front b Long = refl
under_front front b Open = refl

under_nothing : (c : LineCut) → under [] c ≡ c
under_nothing (Line line rest) = refl
under_nothing Long = refl
under_nothing Open = refl

not_lf : (b : ℕ) → b ≢ 10 → eqb b 10 ≡ false
not_lf b ne = elim (eqb_tells b 10) [ inl p ↦ absurd (ne p.1) | inr p ↦ p.0 ]

-- a byte that is no LF belongs to the line
line_more : (room : ℕ) (front rest : List ℕ) (b : ℕ) → eqb b 10 ≡ false → under front (line_within (suc room) (b ∷ rest)) ≡ under (front ++ b ∷ []) (line_within room rest)
unfolding line_within
line_more room front rest b ne = rw ne (under_front front b (line_within room rest))

-- an LF ends it
line_ends : (room : ℕ) (front rest : List ℕ) (b : ℕ) → eqb b 10 ≡ true → under front (line_within (suc room) (b ∷ rest)) ≡ Line front rest
unfolding line_within
line_ends room front rest b e = rw e (ap (λ (x : List ℕ). Line x rest) (append-nil front))

-- how far a scan has come
abbrev pub Scanned : List ℕ → ℕ → Type 0
Scanned hand at = line_at hand ≡ under (take at hand) (line_within (256 - at) (drop at hand))

pub scan_start : (hand : List ℕ) → Scanned hand 0
scan_start hand = sym (under_nothing (line_at hand))

pub scan_more : (hand : List ℕ) (at : ℕ) → at < length hand → at < 256 → slice_index hand at ≢ 10 → Scanned hand at → Scanned hand (at + 1)
scan_more hand at within small ne stands =
    let room : 256 - at ≡ suc (256 - (at + 1)) = omega arith in
    let front : take (at + 1) hand ≡ take at hand ++ slice_index hand at ∷ [] = take_more hand at 0 within in
    let rest : drop at hand ≡ slice_index hand at ∷ drop (at + 1) hand = rw (add-one at) (drop-cons hand at 0 within) in
    stands ∙ rw (room, rest, front) (line_more (256 - (at + 1)) (take at hand) (drop (at + 1) hand) (slice_index hand at) (not_lf (slice_index hand at) ne))

pub scan_line : (hand : List ℕ) (at : ℕ) → at < length hand → at < 256 → slice_index hand at ≡ 10 → Scanned hand at → line_at hand ≡ Line (take at hand) (drop (at + 1) hand)
scan_line hand at within small e stands =
    let room : 256 - at ≡ suc (256 - (at + 1)) = omega arith in
    let rest : drop at hand ≡ slice_index hand at ∷ drop (at + 1) hand = rw (add-one at) (drop-cons hand at 0 within) in
    stands ∙ rw (room, rest) (line_ends (256 - (at + 1)) (take at hand) (drop (at + 1) hand) (slice_index hand at) (eq-eqb (slice_index hand at) 10 e))

pub scan_open : (hand : List ℕ) (at : ℕ) → at ≡ length hand → at < 256 → Scanned hand at → line_at hand ≡ Open
unfolding line_within
scan_open hand at whole small stands =
    let room : 256 - at ≡ suc (256 - (at + 1)) = omega arith in
    let rest : drop at hand ≡ [] = drop_all at hand (omega arith) in
    stands ∙ rw (room, rest) refl

pub scan_long : (hand : List ℕ) (at : ℕ) → 256 ≤ at → Scanned hand at → line_at hand ≡ Long
unfolding line_within
scan_long hand at full stands =
    let room : 256 - at ≡ 0 = omega arith in
    stands ∙ rw room refl

-- bytes without a line, and bytes behind them
abbrev pub IsGrown : List ℕ → Type 0
IsGrown hand =
    (before : List ℕ)
    × (piece : List ℕ)
    × (line_at before ≡ Open)
    × (hand ≡ before ++ piece)
    × (length piece ≤ 1)

put_open : (b : ℕ) (c : LineCut) → put_front b c ≡ Open → c ≡ Open
put_open b (Line line rest) e = absurd cc
put_open b Long e = absurd cc
put_open b Open e = refl

put_line : (b : ℕ) (c : LineCut) (w r : List ℕ) → put_front b c ≡ Line w r
    → (v : List ℕ) × (c ≡ Line v r) × (w ≡ b ∷ v)
put_line b (Line v s) w r e = (v, cc, cc)
put_line b Long w r e = absurd cc
put_line b Open w r e = absurd cc

ends_by : (t : Bool) (b room : ℕ) (before piece w r : List ℕ)
    → (if t then Line [] before else put_front b (line_within room before)) ≡ Open
    → (if t then Line [] (before ++ piece) else put_front b (line_within room (before ++ piece)))
    ≡ Line w r
    → ((v : List ℕ) → line_within room before ≡ Open → line_within room (before ++ piece) ≡ Line v r
    → length before ≤ length v)
    → length (b ∷ before) ≤ length w
ends_by true b room before piece w r none e more = absurd cc
ends_by false b room before piece w r none e more =
    let line = put_line b (line_within room (before ++ piece)) w r e in
    omega (arith, more line.0 (put_open b (line_within room before) none) line.1, ap length line.2)

-- a line that wasn't there before goes through all that was there
ends_behind : (room : ℕ) (before piece w r : List ℕ) → line_within room before ≡ Open
    → line_within room (before ++ piece) ≡ Line w r → length before ≤ length w
unfolding line_within
ends_behind zero before piece w r none e = absurd cc
ends_behind (suc room) [] piece w r none e = omega arith
ends_behind (suc room) (b ∷ before) piece w r none e =
    ends_by (eqb b 10) b room before piece w r none e
    (λ v o l. ends_behind room before piece v r o l)

-- so where one byte was read behind it, the line and its line feed are all
pub line_alone : (hand : List ℕ) (n : ℕ) → IsGrown hand → n < length hand
    → line_at hand ≡ Line (take n hand) (drop (n + 1) hand) → length hand ≡ n + 1
line_alone hand n (before, piece, none, is, few) within e =
    let far : length before ≤ length (take n hand) =
    ends_behind LINE_LIMIT before piece (take n hand) (drop (n + 1) hand) none
    (subst (λ (h : List ℕ). line_at h ≡ Line (take n hand) (drop (n + 1) hand)) is e) in
    omega (
      arith,
      far,
      few,
      within,
      ap length is,
      length-append before piece,
      length-take-le n hand (omega (arith, within)),
    )

pub grown_none : IsGrown []
unfolding line_within
grown_none = ([], [], refl, refl, omega arith)
