-- Laws of the operations, in the words of the manual (Unprivileged ISA, extension M,
-- "Multiplication Operations" and "Division Operations").
use Rattle.std.specs.Prelude.{ℕ, ℤ, pos, negsuc, neg_ℤ, ◌≡◌, ◌≢◌, ◌+◌, ◌-◌, ◌*◌, ◌^◌, ◌<◌, ◌⊎◌, ◌+ℤ◌, ◌*ℤ◌, unsigned_abs}
use Rattle.rv_decode.specs.declared.operations.AluOp.TheVariants.{Mul, Mulh, Mulhsu, Mulhu, Div, Divu, Rem, Remu, Divw, Divuw, Remw, Remuw}
use Rattle.rv_alu.specs.Signed.{signed, signed_32}
use Rattle.rv_alu.specs.Value.{value, low_32}

-- MULHU and MUL are the two halves of the product
abbrev pub HalvesJoin : Type 0
HalvesJoin = (a b : ℕ) → value Mulhu a b * 2 ^ 64 + value Mul a b ≡ a * b

-- MULH and MUL are those of the product of signed numbers: the upper half is signed, the lower
-- isn't
abbrev pub SignedHalvesJoin : Type 0
SignedHalvesJoin = (a b : ℕ) → a < 2 ^ 64 → b < 2 ^ 64
    → signed (value Mulh a b) *ℤ pos (2 ^ 64) +ℤ pos (value Mul a b) ≡ signed a *ℤ signed b

-- MULHSU and MUL are those of the product of a signed number and an unsigned one
abbrev pub MixedHalvesJoin : Type 0
MixedHalvesJoin = (a b : ℕ) → a < 2 ^ 64 → b < 2 ^ 64
    → signed (value Mulhsu a b) *ℤ pos (2 ^ 64) +ℤ pos (value Mul a b) ≡ signed a *ℤ pos b

-- dividend = quotient * divisor + remainder, with a remainder below the divisor
abbrev pub DivisionJoins : Type 0
DivisionJoins = (a b : ℕ) → 0 < b → (value Divu a b * b + value Remu a b ≡ a) × (value Remu a b < b)

-- a number that isn't 0 has the sign of the dividend
abbrev pub HasSignOf : ℤ → ℤ → Type 0
HasSignOf (pos dividend) z = z ≡ pos (unsigned_abs z)
HasSignOf (negsuc dividend) z = z ≡ neg_ℤ (pos (unsigned_abs z))

-- a quotient and a remainder of signed numbers: the remainder is smaller than the divisor and has
-- the sign of the dividend
pub record IsDivision (dividend divisor quotient remainder : ℤ) : Type 0 where
  pub joins : quotient *ℤ divisor +ℤ remainder ≡ dividend
  pub smaller : unsigned_abs remainder < unsigned_abs divisor
  pub sign : HasSignOf dividend remainder

-- so it is where the divisor isn't 0 and the quotient fits, which that of the least number by -1
-- alone doesn't
abbrev pub SignedDivisionJoins : Type 0
SignedDivisionJoins = (a b : ℕ) → a < 2 ^ 64 → 0 < b → b < 2 ^ 64 → (a ≢ 2 ^ 63) ⊎ (b ≢ 2 ^ 64 - 1)
    → IsDivision (signed a) (signed b) (signed (value Div a b)) (signed (value Rem a b))

-- the two answers that the manual lists apart: a division by zero, and the quotient that doesn't
-- fit
abbrev pub DivisionByZero : Type 0
DivisionByZero =
    (a : ℕ) → (value Div a 0 ≡ 2 ^ 64 - 1) × (value Divu a 0 ≡ 2 ^ 64 - 1) × (value Rem a 0 ≡ a)
    × (value Remu a 0 ≡ a)

abbrev pub DivisionOverflows : Type 0
DivisionOverflows =
    (value Div (2 ^ 63) (2 ^ 64 - 1) ≡ 2 ^ 63) × (value Rem (2 ^ 63) (2 ^ 64 - 1) ≡ 0)

-- the same of the low 32 bits, with results that are extended to 64
abbrev pub WordDivisionJoins : Type 0
WordDivisionJoins = (a b : ℕ) → 0 < low_32 b
    → (low_32 (value Divuw a b) * low_32 b + low_32 (value Remuw a b) ≡ low_32 a)
    × (low_32 (value Remuw a b) < low_32 b)

abbrev pub SignedWordDivisionJoins : Type 0
SignedWordDivisionJoins = (a b : ℕ) → 0 < low_32 b → (low_32 a ≢ 2 ^ 31) ⊎ (low_32 b ≢ 2 ^ 32 - 1)
    → IsDivision (signed_32 (low_32 a)) (signed_32 (low_32 b)) (signed (value Divw a b))
    (signed (value Remw a b))
