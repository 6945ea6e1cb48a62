-- Signed divisions.
use Rattle.std.proofs.Common.{ℕ, ℤ, zero, suc, pos, negsuc, neg_ℤ, ◌≡◌, ◌≢◌, ◌+◌, ◌-◌, ◌*◌, ◌/◌, ◌%◌, ◌^◌, ◌<◌, ◌≤◌, ◌⊎◌, nat_eq, false, refl, sym, subst, ◌∙◌, ap, inl, inr, arith, unsigned_abs, int_div, int_rem}
use Rattle.std.proofs.lemmas.Bool.{cases_lt, cond-false, ne_eqb}
use Rattle.std.proofs.lemmas.Nat.{div-add-mod'}
use Rattle.std.proofs.lemmas.Int.{ints, quot-rem, rem_below, to_z-of_z}
use Rattle.std.proofs.Math.Nat.{div-le_self, div-lt_self, mod-lt}
use Rattle.std.specs.Int.{w32, w64, cast_unsigned}
use lib.Signed.{mag, mag_rem}
use Rattle.rv_decode.specs.declared.operations.AluOp.TheVariants.{Divuw, Remuw}
use Rattle.rv_alu.specs.Laws.{HasSignOf, IsDivision, SignedDivisionJoins, DivisionByZero, DivisionOverflows, WordDivisionJoins, SignedWordDivisionJoins}
use Rattle.rv_alu.specs.Signed.{signed, signed_32, word, wide}
use Rattle.rv_alu.specs.Value.{value, low_32}
use Rattle.rv_alu.specs.Sizes.{mag_neg}
use Rattle.rv_alu.proofs.ProductLemmas.{signed_low, signed_high}

-- a quotient fits where the dividend isn't the least number, or the divisor isn't -1
pub quotient_small : (h : ℕ) (a d : ℤ) → mag a < h → (unsigned_abs a < h) ⊎ (d ≢ negsuc 0)
    → mag (int_div a d) < h
quotient_small h (pos a) (pos b) fits other = omega (arith, div-le_self a b, fits)
quotient_small h (pos a) (negsuc b) fits other =
    omega (arith, mag_neg (a / suc b), div-le_self a (suc b), fits)
quotient_small h (negsuc a) (pos b) fits other =
    omega (arith, mag_neg_less (suc a / b), div-le_self (suc a) b, fits)
  where
    mag_neg_less : (n : ℕ) → mag (neg_ℤ (pos n)) ≤ n - 1
    mag_neg_less zero = omega arith
    mag_neg_less (suc n) = omega arith
quotient_small h (negsuc a) (negsuc zero) fits (inl less) =
    omega (arith, div-le_self (suc a) 1, less)
quotient_small h (negsuc a) (negsuc zero) fits (inr other) = absurd (other refl)
quotient_small h (negsuc a) (negsuc (suc b)) fits other =
    let some : 0 < suc a = omega arith in
    let more : 1 < suc (suc b) = omega arith in
    let less : suc a / suc (suc b) < suc a = div-lt_self some more in
    omega (arith, less, fits)

pub abs_of_neg : (n : ℕ) → neg_ℤ (pos n) ≡ neg_ℤ (pos (unsigned_abs (neg_ℤ (pos n))))
abs_of_neg zero = refl
abs_of_neg (suc n) = refl

pub remainder_sign : (a d : ℤ) → HasSignOf a (int_rem a d)
remainder_sign (pos a) d = refl
remainder_sign (negsuc a) d = abs_of_neg (suc a % unsigned_abs d)

pub is_division : (a d : ℤ) → 0 < unsigned_abs d → IsDivision a d (int_div a d) (int_rem a d)
is_division a d some =
    record { joins = quot-rem a d; smaller = rem_below a d some; sign = remainder_sign a d }

-- words of 64 and of 32 bits as signed numbers
pub mag_of_signed : (a : ℕ) → a < 2 ^ 64 → mag (signed a) < 2 ^ 63
mag_of_signed a fits = elim (cases_lt a (2 ^ 63)) [
  | inl less ↦ subst (λ (z : ℤ). mag z < 2 ^ 63) (sym (signed_low a less)) less
  | inr least ↦ subst (λ (z : ℤ). mag z < 2 ^ 63) (sym (signed_high a least fits)) (omega arith)
]

pub signed_32_low : (a : ℕ) → a < 2 ^ 31 → signed_32 a ≡ pos a
signed_32_low a less = grind (arith, ints)

pub signed_32_high : (a : ℕ) → 2 ^ 31 ≤ a → a < 2 ^ 32 → signed_32 a ≡ negsuc (2 ^ 32 - suc a)
signed_32_high a least fits = grind (arith, ints)

pub mag_of_signed_32 : (a : ℕ) → a < 2 ^ 32 → mag (signed_32 a) < 2 ^ 31
mag_of_signed_32 a fits = elim (cases_lt a (2 ^ 31)) [
  | inl less ↦ subst (λ (z : ℤ). mag z < 2 ^ 31) (sym (signed_32_low a less)) less
  | inr least ↦ subst (λ (z : ℤ). mag z < 2 ^ 31) (sym (signed_32_high a least fits)) (omega arith)
]

pub signed_of_word : (z : ℤ) → mag z < 2 ^ 63 → signed (word z) ≡ z
signed_of_word z fits = to_z-of_z w64 z (record { sfits = fits })

pub signed_of_wide : (z : ℤ) → mag z < 2 ^ 31 → signed (wide (cast_unsigned w32 z)) ≡ z
signed_of_wide z fits =
    ap (λ (y : ℤ). signed (word y)) (to_z-of_z w32 z (record { sfits = fits }))
    ∙ signed_of_word z (omega (arith, fits))

pub low_of_wide : (n : ℕ) → n < 2 ^ 32 → low_32 (wide n) ≡ n
low_of_wide n fits = elim (cases_lt n (2 ^ 31)) [
  | inl less ↦ ap (λ (z : ℤ). low_32 (word z)) (signed_32_low n less) ∙ omega arith
  | inr least ↦ ap (λ (z : ℤ). low_32 (word z)) (signed_32_high n least fits) ∙ omega arith
]

-- the quotient that doesn't fit is that of the least number by -1
pub abs_less : (a : ℕ) → a < 2 ^ 64 → a ≢ 2 ^ 63 → unsigned_abs (signed a) < 2 ^ 63
abs_less a fits other = elim (cases_lt a (2 ^ 63)) [
  | inl less ↦ subst (λ (z : ℤ). unsigned_abs z < 2 ^ 63) (sym (signed_low a less)) less
  | inr least ↦ elim (cases_lt (2 ^ 63) a) [
    | inl more ↦
        subst (λ (z : ℤ). unsigned_abs z < 2 ^ 63) (sym (signed_high a least fits)) (omega arith)
    | inr most ↦ absurd (other (omega arith))
  ]
]

pub abs_less_32 : (a : ℕ) → a < 2 ^ 32 → a ≢ 2 ^ 31 → unsigned_abs (signed_32 a) < 2 ^ 31
abs_less_32 a fits other = elim (cases_lt a (2 ^ 31)) [
  | inl less ↦ subst (λ (z : ℤ). unsigned_abs z < 2 ^ 31) (sym (signed_32_low a less)) less
  | inr least ↦ elim (cases_lt (2 ^ 31) a) [
    | inl more ↦
        subst (λ (z : ℤ). unsigned_abs z < 2 ^ 31) (sym (signed_32_high a least fits)) (omega arith)
    | inr most ↦ absurd (other (omega arith))
  ]
]

pub ones_of_minus_one : (b : ℕ) → b < 2 ^ 64 → signed b ≡ negsuc 0 → b ≡ 2 ^ 64 - 1
ones_of_minus_one b fits e = grind (arith, ints, e)

pub ones_of_minus_one_32 : (b : ℕ) → b < 2 ^ 32 → signed_32 b ≡ negsuc 0 → b ≡ 2 ^ 32 - 1
ones_of_minus_one_32 b fits e = grind (arith, ints, e)

pub some_abs : (b : ℕ) → 0 < b → b < 2 ^ 64 → 0 < unsigned_abs (signed b)
some_abs b some fits = grind (arith, ints)

pub some_abs_32 : (b : ℕ) → 0 < b → b < 2 ^ 32 → 0 < unsigned_abs (signed_32 b)
some_abs_32 b some fits = grind (arith, ints)

pub not_zero : (b : ℕ) → 0 < b → nat_eq b 0 ≡ false
not_zero b some = ne_eqb b 0 (λ e. omega (arith, e))

pub by_division : (a d q r x y : ℤ) → q ≡ x → r ≡ y → IsDivision a d x y → IsDivision a d q r
by_division a d q r x y is_q is_r h =
    subst (λ (z : ℤ). IsDivision a d z r) (sym is_q)
    (subst (λ (z : ℤ). IsDivision a d x z) (sym is_r) h)

pub signed_division_joins : SignedDivisionJoins
signed_division_joins a b fits_a some fits_b one =
    let q = int_div (signed a) (signed b) in
    let r = int_rem (signed a) (signed b) in
    let small = mag_of_signed a fits_a in
    let fits : (unsigned_abs (signed a) < 2 ^ 63) ⊎ (signed b ≢ negsuc 0) = elim one [
      | inl other ↦ inl (abs_less a fits_a other)
      | inr other ↦ inr (λ e. other (ones_of_minus_one b fits_b e))
    ] in
    by_division (signed a) (signed b) _ _ q r
    (ap signed (cond-false (nat_eq b 0) (2 ^ 64 - 1) (word q) (not_zero b some))
    ∙ signed_of_word q (quotient_small (2 ^ 63) (signed a) (signed b) small fits))
    (ap signed (cond-false (nat_eq b 0) a (word r) (not_zero b some))
    ∙ signed_of_word r (omega (arith, mag_rem (signed a) (signed b), small)))
    (is_division (signed a) (signed b) (some_abs b some fits_b))

pub signed_word_division_joins : SignedWordDivisionJoins
signed_word_division_joins a b some one =
    let x = low_32 a in
    let y = low_32 b in
    let fits_x : x < 2 ^ 32 = omega arith in
    let fits_y : y < 2 ^ 32 = omega arith in
    let q = int_div (signed_32 x) (signed_32 y) in
    let r = int_rem (signed_32 x) (signed_32 y) in
    let small = mag_of_signed_32 x fits_x in
    let fits : (unsigned_abs (signed_32 x) < 2 ^ 31) ⊎ (signed_32 y ≢ negsuc 0) = elim one [
      | inl other ↦ inl (abs_less_32 x fits_x other)
      | inr other ↦ inr (λ e. other (ones_of_minus_one_32 y fits_y e))
    ] in
    by_division (signed_32 x) (signed_32 y) _ _ q r
    (ap (λ (n : ℕ). signed (wide n))
    (cond-false (nat_eq y 0) (2 ^ 32 - 1) (cast_unsigned w32 q) (not_zero y some))
    ∙ signed_of_wide q (quotient_small (2 ^ 31) (signed_32 x) (signed_32 y) small fits))
    (ap (λ (n : ℕ). signed (wide n))
    (cond-false (nat_eq y 0) x (cast_unsigned w32 r) (not_zero y some))
    ∙ signed_of_wide r (omega (arith, mag_rem (signed_32 x) (signed_32 y), small)))
    (is_division (signed_32 x) (signed_32 y) (some_abs_32 y some fits_y))

pub word_division_joins : WordDivisionJoins
word_division_joins a b some =
    let x = low_32 a in
    let y = low_32 b in
    let fits_x : x < 2 ^ 32 = omega arith in
    let quotient : low_32 (value Divuw a b) ≡ x / y =
    ap (λ (n : ℕ). low_32 (wide n)) (cond-false (nat_eq y 0) (2 ^ 32 - 1) (x / y) (not_zero y some))
    ∙ low_of_wide (x / y) (omega (arith, div-le_self x y)) in
    let remainder : low_32 (value Remuw a b) ≡ x % y =
    ap (λ (n : ℕ). low_32 (wide n)) (cond-false (nat_eq y 0) x (x % y) (not_zero y some))
    ∙ low_of_wide (x % y) (omega (arith, mod-lt x some)) in (
      (λ i. quotient i * y + remainder i) ∙ div-add-mod' x y,
      omega (arith, remainder, mod-lt x some),
    )

pub division_by_zero : DivisionByZero
division_by_zero a = (refl, refl, refl, refl)

pub division_overflows : DivisionOverflows
division_overflows = (refl, refl)
