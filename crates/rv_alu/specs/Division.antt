-- Division (Unprivileged ISA, extension M). By zero the quotient is all ones and the remainder the dividend. Signed
-- division rounds toward zero; the least number by -1 gives 2 ^ 63, whose 64 bits are the least number's, and remainder 0.
use Rattle.std.specs.Prelude.{ℕ, ◌-◌, ◌/◌, ◌%◌, ◌^◌, cond, nat_eq, int_div, int_rem}
use Rattle.std.specs.Int.{w32, cast_unsigned}
use Rattle.rv_alu.specs.Signed.{signed, signed_32, word}

abbrev pub quotient : ℕ → ℕ → ℕ
quotient a b = cond (nat_eq b 0) (2 ^ 64 - 1) (word (int_div (signed a) (signed b)))

abbrev pub remainder : ℕ → ℕ → ℕ
remainder a b = cond (nat_eq b 0) a (word (int_rem (signed a) (signed b)))

-- the same of 32 bits
abbrev pub quotient_32 : ℕ → ℕ → ℕ
quotient_32 a b = cond (nat_eq b 0) (2 ^ 32 - 1) (cast_unsigned w32 (int_div (signed_32 a) (signed_32 b)))

abbrev pub remainder_32 : ℕ → ℕ → ℕ
remainder_32 a b = cond (nat_eq b 0) a (cast_unsigned w32 (int_rem (signed_32 a) (signed_32 b)))

abbrev pub unsigned_quotient : ℕ → ℕ → ℕ
unsigned_quotient a b = cond (nat_eq b 0) (2 ^ 64 - 1) (a / b)

abbrev pub unsigned_remainder : ℕ → ℕ → ℕ
unsigned_remainder a b = cond (nat_eq b 0) a (a % b)

abbrev pub unsigned_quotient_32 : ℕ → ℕ → ℕ
unsigned_quotient_32 a b = cond (nat_eq b 0) (2 ^ 32 - 1) (a / b)

abbrev pub unsigned_remainder_32 : ℕ → ℕ → ℕ
unsigned_remainder_32 a b = cond (nat_eq b 0) a (a % b)
