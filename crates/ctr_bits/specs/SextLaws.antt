-- Laws of sign extension: what is sign_extension stands for the number that the bits stood for
-- (Unprivileged ISA, the immediates of the base formats: each is a number in two's complement).
use Rattle.std.specs.Prelude.{ℕ, ℤ, ◌≡◌, ◌+◌, ◌-◌, ◌*◌, ◌/◌, ◌%◌, ◌^◌, ◌<◌, ◌≤◌, Bool, true, false, cond, ltb, pos, ◌-ℤ◌}
use Rattle.std.proofs.Common.{sym, ◌∙◌, ap, inl, inr, arith}
use Rattle.std.proofs.Math.Nat.{mod-eq-sub-mod, mod-eq_of_lt, pow-le-pow_right}
use Rattle.std.proofs.lemmas.Bool.{cases_lt, lt-ltb, le-ltb, cond-true, cond-false}
use Rattle.std.proofs.lemmas.Nat.{div-add-mod', pow-add}
use Rattle.std.proofs.lemmas.Int.{ints}
use Rattle.std.specs.Int.{w64, cast_signed}
use Rattle.ctr_bits.specs.Sext.{sign_extension}

-- the two's complement number of so many bits: the highest weighs - 2 ^ (bits - 1), and those below
-- it are a whole number
abbrev pub number_of : ℕ → ℕ → ℤ
number_of bits value = pos (value % 2 ^ (bits - 1)) -ℤ pos (value / 2 ^ (bits - 1) * 2 ^ (bits - 1))

abbrev pub ExtendedIsNumber : Type 0
ExtendedIsNumber =
    (bits value : ℕ) → 1 ≤ bits → bits ≤ 64 → value < 2 ^ bits
    → cast_signed w64 (sign_extension bits value) ≡ number_of bits value

-- and is a word of 64 bits
abbrev pub ExtendedFits : Type 0
ExtendedFits = (bits value : ℕ) → bits ≤ 64 → value < 2 ^ bits → sign_extension bits value < 2 ^ 64

-- a word by its highest bit
pub sign_clear : (word low high : ℕ) → word < 2 ^ 63 → low ≡ word + high
    → cast_signed w64 word ≡ pos low -ℤ pos high
sign_clear word low high less is = omega (arith, ints)

pub sign_set : (word low high : ℕ) → 2 ^ 63 ≤ word → word < 2 ^ 64 → low + 2 ^ 64 ≡ word + high
    → cast_signed w64 word ≡ pos low -ℤ pos high
sign_set word low high least fits is = grind (arith, ints)

pub by_sign : (h value : ℕ) → h ≤ 2 ^ 63 → value < h + h
    → cast_signed w64 (cond (ltb value h) value (value + (2 ^ 64 - (h + h))))
    ≡ pos (value % h) -ℤ pos (value / h * h)
by_sign h value most fits =
    let other = value + (2 ^ 64 - (h + h)) in
    let split : value / h * h + value % h ≡ value = div-add-mod' value h in
    elim (cases_lt value h) [
      | inl less ↦
          let low : value % h ≡ value = mod-eq_of_lt less in
          ap (λ (n : ℕ). cast_signed w64 n)
          (cond-true (ltb value h) value other (lt-ltb value h less))
          ∙ sign_clear value (value % h) (value / h * h) (omega arith) (omega (arith, low, split))
      | inr least ↦
          let rest : value - h < h = omega arith in
          let low : value % h ≡ value - h = mod-eq-sub-mod least ∙ mod-eq_of_lt rest in
          ap (λ (n : ℕ). cast_signed w64 n)
          (cond-false (ltb value h) value other (le-ltb value h least))
          ∙ sign_set other (value % h) (value / h * h) (omega arith) (omega arith)
          (omega (arith, low, split))
    ]

pub extended_is_number : ExtendedIsNumber
extended_is_number bits value some room fits =
    let two : 0 < 2 = omega arith in
    let place : bits - 1 ≤ 63 = omega arith in
    let most : 2 ^ (bits - 1) ≤ 2 ^ 63 = pow-le-pow_right two place in
    let next : bits - 1 + 1 ≡ bits = omega arith in
    let twice : 2 ^ bits ≡ 2 ^ (bits - 1) + 2 ^ (bits - 1) =
    sym (ap (λ (k : ℕ). 2 ^ k) next) ∙ pow-add 2 (bits - 1) 1 ∙ omega arith in
    let sign = ltb value (2 ^ (bits - 1)) in
    ap (λ (n : ℕ). cast_signed w64 (cond sign value (value + (2 ^ 64 - n)))) twice
    ∙ by_sign (2 ^ (bits - 1)) value most (omega (arith, twice))

pub by_sign_fits : (t : Bool) (end value : ℕ) → end ≤ 2 ^ 64 → value < end
    → cond t value (value + (2 ^ 64 - end)) < 2 ^ 64
by_sign_fits true end value most fits = omega arith
by_sign_fits false end value most fits = omega arith

pub extended_fits : ExtendedFits
extended_fits bits value room fits =
    let two : 0 < 2 = omega arith in
    by_sign_fits (ltb value (2 ^ (bits - 1))) (2 ^ bits) value (pow-le-pow_right two room) fits
