-- The halves of signed and mixed products.
use Rattle.std.proofs.Common.{ℕ, ℤ, zero, suc, pos, negsuc, neg_ℤ, ◌≡◌, ◌+◌, ◌-◌, ◌*◌, ◌/◌, ◌%◌, ◌^◌, ◌<◌, ◌≤◌, ◌+ℤ◌, ◌*ℤ◌, sym, ◌∙◌, ap, inl, inr, arith}
use Rattle.std.specs.Prelude.{FitsSigned}
use Rattle.std.proofs.lemmas.Bool.{cases_lt}
use Rattle.std.proofs.lemmas.Int.{ints, fits_signed_mul}
use Rattle.std.proofs.Math.Nat.{add-mul, mul-add}
use Rattle.std.specs.Int.{w128, cast_unsigned}
use Rattle.rv_alu.specs.Laws.{SignedHalvesJoin, MixedHalvesJoin}
use Rattle.rv_alu.specs.Signed.{signed}
use Rattle.rv_alu.specs.Sizes.{abs_signed}

-- a word by its highest bit
pub signed_low : (a : ℕ) → a < 2 ^ 63 → signed a ≡ pos a
signed_low a less = grind (arith, ints)

pub signed_high : (a : ℕ) → 2 ^ 63 ≤ a → a < 2 ^ 64 → signed a ≡ negsuc (2 ^ 64 - suc a)
signed_high a least fits = grind (arith, ints)

-- the two halves of 128 bits are the number that they stand for
pub high_of_positive : (n : ℕ) → n < 2 ^ 127
    → signed (n / 2 ^ 64) *ℤ pos (2 ^ 64) +ℤ pos (n % 2 ^ 64) ≡ pos n
high_of_positive n fits =
    let e : signed (n / 2 ^ 64) ≡ pos (n / 2 ^ 64) = signed_low (n / 2 ^ 64) (omega arith) in
    ap (λ (z : ℤ). z *ℤ pos (2 ^ 64) +ℤ pos (n % 2 ^ 64)) e ∙ omega (arith, ints)

pub high_of_negative : (n : ℕ) → n < 2 ^ 127
    → signed ((2 ^ 128 - suc n) / 2 ^ 64) *ℤ pos (2 ^ 64) +ℤ pos
    ((2 ^ 128 - suc n) % 2 ^ 64) ≡ negsuc n
high_of_negative n fits =
    let high = (2 ^ 128 - suc n) / 2 ^ 64 in
    let e : signed high ≡ negsuc (2 ^ 64 - suc high) =
    signed_high high (omega arith) (omega arith) in
    ap (λ (z : ℤ). z *ℤ pos (2 ^ 64) +ℤ pos ((2 ^ 128 - suc n) % 2 ^ 64)) e ∙ omega (arith, ints)

pub halves : (z : ℤ) → FitsSigned w128 z
    → signed (cast_unsigned w128 z / 2 ^ 64) *ℤ pos (2 ^ 64) +ℤ pos
    (cast_unsigned w128 z % 2 ^ 64) ≡ z
halves (pos n) fits = high_of_positive n fits.sfits
halves (negsuc n) fits = high_of_negative n fits.sfits

-- the low half of a product of magnitudes taken from 2 ^ 64
pub low_of_negated : (n rest : ℕ) → n < 2 ^ 128 → (n + rest) % 2 ^ 64 ≡ 0
    → cast_unsigned w128 (neg_ℤ (pos n)) % 2 ^ 64 ≡ rest % 2 ^ 64
low_of_negated zero rest fits whole = omega arith
low_of_negated (suc n) rest fits whole = omega arith

-- what a negative word lacks to 2 ^ 64, times another word
pub lacking : (a : ℕ) → a < 2 ^ 64 → suc (2 ^ 64 - suc a) + a ≡ 2 ^ 64
lacking a fits = omega arith

pub lacking_times : (a b : ℕ) → a < 2 ^ 64 → suc (2 ^ 64 - suc a) * b + a * b ≡ 2 ^ 64 * b
lacking_times a b fits =
    sym (add-mul (suc (2 ^ 64 - suc a)) a b) ∙ ap (λ (n : ℕ). n * b) (lacking a fits)

pub times_lacking : (a b : ℕ) → b < 2 ^ 64 → a * suc (2 ^ 64 - suc b) + a * b ≡ a * 2 ^ 64
times_lacking a b fits =
    sym (mul-add a (suc (2 ^ 64 - suc b)) b) ∙ ap (λ (n : ℕ). a * n) (lacking b fits)

abbrev pub low_of : ℤ → ℕ
low_of z = cast_unsigned w128 z % 2 ^ 64

pub low_left : (a b : ℕ) → a < 2 ^ 64 → b < 2 ^ 64
    → low_of (negsuc (2 ^ 64 - suc a) *ℤ pos b) ≡ a * b % 2 ^ 64
low_left a b fits_a fits_b =
    let sum = lacking_times a b fits_a in
    low_of_negated (suc (2 ^ 64 - suc a) * b) (a * b) (omega (arith, sum)) (omega (arith, sum))

pub low_right : (a b : ℕ) → a < 2 ^ 64 → b < 2 ^ 64
    → low_of (pos a *ℤ negsuc (2 ^ 64 - suc b)) ≡ a * b % 2 ^ 64
low_right a b fits_a fits_b =
    let sum = times_lacking a b fits_b in
    low_of_negated (a * suc (2 ^ 64 - suc b)) (a * b) (omega (arith, sum)) (omega (arith, sum))

pub low_both : (a b : ℕ) → a < 2 ^ 64 → b < 2 ^ 64
    → low_of (negsuc (2 ^ 64 - suc a) *ℤ negsuc (2 ^ 64 - suc b)) ≡ a * b % 2 ^ 64
low_both a b fits_a fits_b =
    omega (arith, lacking_times a (suc (2 ^ 64 - suc b)) fits_a, times_lacking a b fits_b)

pub low_of_product : (a b : ℕ) → a < 2 ^ 64 → b < 2 ^ 64
    → low_of (signed a *ℤ signed b) ≡ a * b % 2 ^ 64
low_of_product a b fits_a fits_b = elim (cases_lt a (2 ^ 63)) [
  | inl less_a ↦ elim (cases_lt b (2 ^ 63)) [
    | inl less_b ↦ ap low_of (λ i. signed_low a less_a i *ℤ signed_low b less_b i)
    | inr least_b ↦
        ap low_of (λ i. signed_low a less_a i *ℤ signed_high b least_b fits_b i)
        ∙ low_right a b fits_a fits_b
  ]
  | inr least_a ↦ elim (cases_lt b (2 ^ 63)) [
    | inl less_b ↦
        ap low_of (λ i. signed_high a least_a fits_a i *ℤ signed_low b less_b i)
        ∙ low_left a b fits_a fits_b
    | inr least_b ↦
        ap low_of (λ i. signed_high a least_a fits_a i *ℤ signed_high b least_b fits_b i)
        ∙ low_both a b fits_a fits_b
  ]
]

pub low_of_mixed : (a b : ℕ) → a < 2 ^ 64 → b < 2 ^ 64 → low_of (signed a *ℤ pos b) ≡ a * b % 2 ^ 64
low_of_mixed a b fits_a fits_b = elim (cases_lt a (2 ^ 63)) [
  | inl less_a ↦ ap (λ (z : ℤ). low_of (z *ℤ pos b)) (signed_low a less_a)
  | inr least_a ↦
      ap (λ (z : ℤ). low_of (z *ℤ pos b)) (signed_high a least_a fits_a)
      ∙ low_left a b fits_a fits_b
]

abbrev pub joined : ℤ → ℕ → ℤ
joined z low = signed (cast_unsigned w128 z / 2 ^ 64) *ℤ pos (2 ^ 64) +ℤ pos low

pub signed_halves_join : SignedHalvesJoin
signed_halves_join a b fits_a fits_b =
    let z = signed a *ℤ signed b in
    ap (joined z) (sym (low_of_product a b fits_a fits_b))
    ∙ halves z
    (fits_signed_mul w128 (signed a) (signed b) (2 ^ 63) (2 ^ 63) (abs_signed a fits_a)
    (abs_signed b fits_b) (omega arith))

pub mixed_halves_join : MixedHalvesJoin
mixed_halves_join a b fits_a fits_b =
    let z = signed a *ℤ pos b in
    ap (joined z) (sym (low_of_mixed a b fits_a fits_b))
    ∙ halves z
    (fits_signed_mul w128 (signed a) (pos b) (2 ^ 63) (2 ^ 64 - 1) (abs_signed a fits_a)
    (omega arith) (omega arith))
