-- What each operation computes of two words of 64 bits (Unprivileged ISA, RV64I and the extension M).
use Rattle.std.specs.Prelude.{ℕ, ◌+◌, ◌-◌, ◌*◌, ◌/◌, ◌%◌, ◌^◌, cond, ltb, bit_and, bit_or, bit_xor, int_lt, pos, ◌*ℤ◌}
use Rattle.std.specs.Int.{w128, cast_unsigned, int_shr}
use Rattle.rv_decode.specs.declared.operations.AluOp.{AluOp}
use Rattle.rv_decode.specs.declared.operations.AluOp.TheVariants.{Add, Sub, Sll, Slt, Sltu, Xor, Srl, Sra, Or, And, Addw, Subw, Sllw, Srlw, Sraw, Mul, Mulh, Mulhsu, Mulhu, Div, Divu, Rem, Remu, Mulw, Divw, Divuw, Remw, Remuw}
use Rattle.rv_alu.specs.Signed.{signed, signed_32, word, wide}
use Rattle.rv_alu.specs.Division.{quotient, remainder, quotient_32, remainder_32, unsigned_quotient, unsigned_remainder, unsigned_quotient_32, unsigned_remainder_32}

-- the low 32 bits
abbrev pub low_32 : ℕ → ℕ
low_32 a = a % 2 ^ 32

abbrev pub value : AluOp → ℕ → ℕ → ℕ
value Add a b = (a + b) % 2 ^ 64
value Sub a b = (a + (2 ^ 64 - b)) % 2 ^ 64
value Sll a b = a * 2 ^ (b % 64) % 2 ^ 64
value Slt a b = cond (int_lt (signed a) (signed b)) 1 0
value Sltu a b = cond (ltb a b) 1 0
value Xor a b = bit_xor a b
value Srl a b = a / 2 ^ (b % 64)
value Sra a b = word (int_shr (signed a) (b % 64))
value Or a b = bit_or a b
value And a b = bit_and a b
value Addw a b = wide ((low_32 a + low_32 b) % 2 ^ 32)
value Subw a b = wide ((low_32 a + (2 ^ 32 - low_32 b)) % 2 ^ 32)
value Sllw a b = wide (low_32 a * 2 ^ (b % 32) % 2 ^ 32)
value Srlw a b = wide (low_32 a / 2 ^ (b % 32))
value Sraw a b = word (int_shr (signed_32 (low_32 a)) (b % 32))
value Mul a b = a * b % 2 ^ 64
value Mulh a b = cast_unsigned w128 (signed a *ℤ signed b) / 2 ^ 64
value Mulhsu a b = cast_unsigned w128 (signed a *ℤ pos b) / 2 ^ 64
value Mulhu a b = a * b / 2 ^ 64
value Div a b = quotient a b
value Divu a b = unsigned_quotient a b
value Rem a b = remainder a b
value Remu a b = unsigned_remainder a b
value Mulw a b = wide (low_32 a * low_32 b % 2 ^ 32)
value Divw a b = wide (quotient_32 (low_32 a) (low_32 b))
value Divuw a b = wide (unsigned_quotient_32 (low_32 a) (low_32 b))
value Remw a b = wide (remainder_32 (low_32 a) (low_32 b))
value Remuw a b = wide (unsigned_remainder_32 (low_32 a) (low_32 b))
