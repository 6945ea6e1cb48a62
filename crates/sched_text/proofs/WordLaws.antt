-- Words cut off a line one by one, and numbers digit by digit.
use Rattle.std.proofs.Common.{◌≡◌, ◌≢◌, ℕ, suc, ◌+◌, ◌-◌, ◌<◌, ◌≤◌, List, [], ◌∷◌, length, take, drop, false, refl, sym, ap, ◌∙◌, arith, inl, inr}
use Rattle.std.proofs.lemmas.Bool.Decides.{eqb_tells}
use Rattle.std.proofs.lemmas.List.{length-drop, take_all, drop-drop}
use Rattle.std.proofs.Math.Seq.{take-length}
use Rattle.std.proofs.lemmas.List.Splits.{slice_split_first, length-slice_split}
use Rattle.std.specs.List.{position_or_len, count_by}
use Rattle.sched_text.specs.Lines.{is_space, words, word}

pub no_space : (b : ℕ) → b ≢ 32 → is_space b ≡ false
no_space b ne = elim (eqb_tells b 32) [ inl p ↦ absurd (ne p.1) | inr p ↦ p.0 ]

-- a line in which no space comes is one word
pub words_whole : (line : List ℕ) → position_or_len is_space line ≡ length line → words line ≡ line ∷ []
words_whole [] e = refl
words_whole (b ∷ line) e =
    elim (eqb_tells b 32) [
      | inl p ↦ let none : 0 ≡ suc (length line) = rw p.0 at e in absurd (omega (arith, none))
      | inr p ↦
          let more : 1 + position_or_len is_space line ≡ suc (length line) = rw p.0 at e in
          let rest = words_whole line (omega (arith, more)) in
          rw (p.0, rest) refl
    ]

-- the first word, and the words of what follows the space after it
pub words_first : (line : List ℕ) → position_or_len is_space line < length line → words line ≡ take (position_or_len is_space line) line ∷ words (drop (position_or_len is_space line + 1) line)
words_first line within = slice_split_first is_space line 0 within

pub words_count : (line : List ℕ) → count_by is_space line + 1 ≡ length (words line)
words_count line = sym (length-slice_split is_space line)

-- a line cut at the place `at`, where the part behind it is empty
pub last_word : (line front back : List ℕ) (at : ℕ) → at ≡ position_or_len is_space line → at ≤ length line → front ≡ take at line → back ≡ drop at line → length back < 1
    → (front ≡ word line 0) × (length (words line) ≡ 1)
last_word line front back at first within f b none =
    let len : length (drop at line) ≡ length line - at = length-drop at line in
    let empty : length (drop at line) < 1 = rw b at none in
    let whole : at ≡ length line = omega (arith, len) in
    let all : words line ≡ line ∷ [] = words_whole line (sym first ∙ whole) in
    (f ∙ rw (all, whole) (take-length line), ap length all)

-- a line cut at the place `at`, where a space stands
pub next_word : (line front back : List ℕ) (at : ℕ) → at ≡ position_or_len is_space line → front ≡ take at line → back ≡ drop at line → 1 ≤ length back
    → (front ≡ word line 0) × (words (take (length back - 1) (drop 1 back)) ≡ drop 1 (words line))
next_word line front back at first f b some =
    let len : length (drop at line) ≡ length line - at = length-drop at line in
    let more : 1 ≤ length (drop at line) = rw b at some in
    let within : position_or_len is_space line < length line = omega (arith, len, first) in
    let cut = words_first line within in
    let behind : take (length back - 1) (drop 1 back) ≡ drop (position_or_len is_space line + 1) line =
    take_all (length back - 1) (drop 1 back) (omega (arith, length-drop 1 back)) ∙ ap (drop 1) (b ∙ ap (λ i. drop i line) first) ∙ drop-drop 1 (position_or_len is_space line) line in
    (f ∙ ap (λ i. take i line) first ∙ rw cut refl, ap words behind ∙ rw cut refl)
