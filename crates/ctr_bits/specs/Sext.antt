-- Sign extension (Unprivileged ISA, the immediates of the base formats).
use Rattle.std.specs.Prelude.{ℕ, ◌+◌, ◌-◌, ◌^◌, cond, ltb}

-- a number below 2 ^ (bits - 1) stands for itself, one from there up for itself less 2 ^ bits, kept modulo 2 ^ 64
abbrev pub sign_extension : ℕ → ℕ → ℕ
sign_extension bits value = cond (ltb value (2 ^ (bits - 1))) value (value + (2 ^ 64 - 2 ^ bits))
