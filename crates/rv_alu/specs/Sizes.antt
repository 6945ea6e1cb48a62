-- Every operation gives a word of 64 bits (RISC-V Unprivileged ISA, RV64I: XLEN is 64).
use Rattle.std.proofs.Common.{ℕ, ℤ, zero, suc, pos, negsuc, neg_ℤ, ◌*ℤ◌, ◌≤◌, ◌+◌, ◌-◌, ◌*◌, ◌/◌, ◌%◌, ◌^◌, ◌<◌, Bool, true, false, cond, nat_eq, ltb, int_lt, int_div, int_rem, arith, lit<, unsigned_abs}
use Rattle.std.proofs.lemmas.Int.{ints, unsigned_abs-mul}
use Rattle.std.proofs.lemmas.Nat.{and_le_l, or_lt, xor_lt, mod_below}
use Rattle.std.proofs.Math.Nat.{div-le_self, mul-le-mul}
use Rattle.std.specs.Int.{w128, cast_unsigned, int_shr}
use lib.Signed.{mag, mag_rem, mag_shr}
use Rattle.rv_decode.specs.declared.operations.AluOp.{AluOp}
use Rattle.rv_decode.specs.declared.operations.AluOp.TheVariants.{Add, Sub, Sll, Slt, Sltu, Xor, Srl, Sra, Or, And, Addw, Subw, Sllw, Srlw, Sraw, Mul, Mulh, Mulhsu, Mulhu, Div, Divu, Rem, Remu, Mulw, Divw, Divuw, Remw, Remuw}
use Rattle.rv_alu.specs.Signed.{signed, signed_32, word, wide}
use Rattle.rv_alu.specs.Division.{quotient_32, remainder_32, unsigned_quotient_32, unsigned_remainder_32}
use Rattle.rv_alu.specs.Value.{value, low_32}

abbrev pub ValuesFit : Type 0
ValuesFit = (op : AluOp) (a b : ℕ) → a < 2 ^ 64 → b < 2 ^ 64 → value op a b < 2 ^ 64

pub choice_fits : (b : Bool) (x y : ℕ) → x < 2 ^ 64 → y < 2 ^ 64 → cond b x y < 2 ^ 64
choice_fits true x y p q = p
choice_fits false x y p q = q

pub word_fits : (z : ℤ) → mag z < 2 ^ 64 → word z < 2 ^ 64
word_fits (pos n) p = p
word_fits (negsuc n) p = omega arith

pub double_fits : (z : ℤ) → mag z < 2 ^ 128 → cast_unsigned w128 z < 2 ^ 128
double_fits (pos n) p = p
double_fits (negsuc n) p = omega arith

pub abs_signed : (a : ℕ) → a < 2 ^ 64 → unsigned_abs (signed a) ≤ 2 ^ 63
abs_signed a p = omega (arith, ints)

pub abs_signed_32 : (a : ℕ) → a < 2 ^ 32 → unsigned_abs (signed_32 a) ≤ 2 ^ 31
abs_signed_32 a p = omega (arith, ints)

pub wide_fits : (a : ℕ) → wide a < 2 ^ 64
wide_fits a = omega (arith, ints)

pub mag_below_abs : (z : ℤ) → mag z ≤ unsigned_abs z
mag_below_abs (pos n) = omega arith
mag_below_abs (negsuc n) = omega arith

pub mag_signed : (a : ℕ) → a < 2 ^ 64 → mag (signed a) ≤ 2 ^ 63
mag_signed a p = omega (arith, mag_below_abs (signed a), abs_signed a p)

pub mag_signed_32 : (a : ℕ) → a < 2 ^ 32 → mag (signed_32 a) ≤ 2 ^ 31
mag_signed_32 a p = omega (arith, mag_below_abs (signed_32 a), abs_signed_32 a p)

pub mag_neg : (n : ℕ) → mag (neg_ℤ (pos n)) ≤ n
mag_neg zero = omega arith
mag_neg (suc n) = omega arith

pub mag_quot : (a d : ℤ) → mag (int_div a d) ≤ mag a + 1
mag_quot (pos a) (pos b) = omega (arith, div-le_self a b)
mag_quot (pos a) (negsuc b) = omega (arith, mag_neg (a / suc b), div-le_self a (suc b))
mag_quot (negsuc a) (pos b) = omega (arith, mag_neg (suc a / b), div-le_self (suc a) b)
mag_quot (negsuc a) (negsuc b) = omega (arith, div-le_self (suc a) (suc b))

pub high_half : (n : ℕ) → n < 2 ^ 128 → n / 2 ^ 64 < 2 ^ 64
high_half n p = omega (arith, p)

pub mag_product : (a b : ℤ) (m n : ℕ) → unsigned_abs a ≤ m → unsigned_abs b ≤ n
    → mag (a *ℤ b) ≤ m * n
mag_product a b m n p q =
    omega (arith, mag_below_abs (a *ℤ b), unsigned_abs-mul a b, mul-le-mul p q)

pub product_below : (a b m n : ℕ) → a ≤ m → b ≤ n → a * b ≤ m * n
product_below a b m n p q = mul-le-mul p q

pub value_fits : ValuesFit
value_fits Add a b p q = mod_below (a + b) (2 ^ 64) (lit< tt)
value_fits Sub a b p q = mod_below (a + (2 ^ 64 - b)) (2 ^ 64) (lit< tt)
value_fits Sll a b p q = mod_below (a * 2 ^ (b % 64)) (2 ^ 64) (lit< tt)
value_fits Slt a b p q = choice_fits (int_lt (signed a) (signed b)) 1 0 (lit< tt) (lit< tt)
value_fits Sltu a b p q = choice_fits (ltb a b) 1 0 (lit< tt) (lit< tt)
value_fits Xor a b p q = xor_lt 64 a b p q
value_fits Srl a b p q = omega (arith, div-le_self a (2 ^ (b % 64)), p)
value_fits Sra a b p q =
    word_fits (int_shr (signed a) (b % 64))
    (omega (arith, mag_shr (signed a) (2 ^ (b % 64)), mag_signed a p))
value_fits Or a b p q = or_lt 64 a b p q
value_fits And a b p q = omega (arith, and_le_l a b, p)
value_fits Addw a b p q = wide_fits ((low_32 a + low_32 b) % 2 ^ 32)
value_fits Subw a b p q = wide_fits ((low_32 a + (2 ^ 32 - low_32 b)) % 2 ^ 32)
value_fits Sllw a b p q = wide_fits (low_32 a * 2 ^ (b % 32) % 2 ^ 32)
value_fits Srlw a b p q = wide_fits (low_32 a / 2 ^ (b % 32))
value_fits Sraw a b p q =
    word_fits (int_shr (signed_32 (low_32 a)) (b % 32))
    (omega (
      arith,
      mag_shr (signed_32 (low_32 a)) (2 ^ (b % 32)),
      mag_signed_32 (low_32 a)
          (mod_below a (2 ^ 32) (lit< tt)),
    ))
value_fits Mul a b p q = mod_below (a * b) (2 ^ 64) (lit< tt)
value_fits Mulh a b p q =
    high_half (cast_unsigned w128 (signed a *ℤ signed b))
    (double_fits (signed a *ℤ signed b)
    (omega (
      arith,
      mag_product (signed a) (signed b) (2 ^ 63) (2 ^ 63) (abs_signed a p)
          (abs_signed b q),
    )))
value_fits Mulhsu a b p q =
    high_half (cast_unsigned w128 (signed a *ℤ pos b))
    (double_fits (signed a *ℤ pos b)
    (omega (
      arith,
      mag_product (signed a) (pos b) (2 ^ 63) (2 ^ 64) (abs_signed a p)
          (omega (arith, q)),
    )))
value_fits Mulhu a b p q =
    high_half (a * b)
    (omega (
      arith,
      product_below a b (2 ^ 64 - 1) (2 ^ 64 - 1) (omega (arith, p))
          (omega (arith, q)),
    ))
value_fits Div a b p q =
    choice_fits (nat_eq b 0) (2 ^ 64 - 1) (word (int_div (signed a) (signed b))) (lit< tt)
    (word_fits (int_div (signed a) (signed b))
    (omega (arith, mag_quot (signed a) (signed b), mag_signed a p)))
value_fits Divu a b p q =
    choice_fits (nat_eq b 0) (2 ^ 64 - 1) (a / b) (lit< tt) (omega (arith, div-le_self a b, p))
value_fits Rem a b p q =
    choice_fits (nat_eq b 0) a (word (int_rem (signed a) (signed b))) p
    (word_fits (int_rem (signed a) (signed b))
    (omega (arith, mag_rem (signed a) (signed b), mag_signed a p)))
value_fits Remu a b p q = choice_fits (nat_eq b 0) a (a % b) p (omega (arith, p))
value_fits Mulw a b p q = wide_fits (low_32 a * low_32 b % 2 ^ 32)
value_fits Divw a b p q = wide_fits (quotient_32 (low_32 a) (low_32 b))
value_fits Divuw a b p q = wide_fits (unsigned_quotient_32 (low_32 a) (low_32 b))
value_fits Remw a b p q = wide_fits (remainder_32 (low_32 a) (low_32 b))
value_fits Remuw a b p q = wide_fits (unsigned_remainder_32 (low_32 a) (low_32 b))
