-- Writes under a mask, as registers take them.
use Rattle.std.specs.Prelude.{ℕ, ◌-◌, ◌^◌, bit_and, bit_or}

-- a word of 64 bits after a write under a mask: the mask's bits are those of the value, all others are the old ones
abbrev pub with_masked : ℕ → ℕ → ℕ → ℕ
with_masked mask old value = bit_or (bit_and old (2 ^ 64 - 1 - mask)) (bit_and value mask)
