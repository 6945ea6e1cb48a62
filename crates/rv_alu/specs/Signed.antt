-- Words of registers as signed numbers, and back (RISC-V Unprivileged ISA, RV64I: two's
-- complement).
use Rattle.std.specs.Prelude.{ℕ, ℤ}
use Rattle.std.specs.Int.{w32, w64, cast_signed, cast_unsigned}

-- the number that 64 bits stand for in two's complement
abbrev pub signed : ℕ → ℤ
signed a = cast_signed w64 a

-- the same of 32 bits
abbrev pub signed_32 : ℕ → ℤ
signed_32 a = cast_signed w32 a

-- the 64 bits of a signed number, modulo 2 ^ 64
abbrev pub word : ℤ → ℕ
word z = cast_unsigned w64 z

-- 32 bits, sign-extended to 64
abbrev pub wide : ℕ → ℕ
wide a = word (signed_32 a)
