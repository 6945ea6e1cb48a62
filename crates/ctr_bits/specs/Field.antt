-- Bit fields by division: no shift and no mask.
use Rattle.std.specs.Prelude.{ℕ, ◌+◌, ◌*◌, ◌/◌, ◌%◌, ◌^◌}

-- the len bits of the word from bit lo up
abbrev pub field_of : ℕ → ℕ → ℕ → ℕ
field_of lo len word = word / 2 ^ lo % 2 ^ len

-- what is above the field, then the value, then what is below the field
abbrev pub with_field : ℕ → ℕ → ℕ → ℕ → ℕ
with_field lo len word value = word / 2 ^ (len + lo) * 2 ^ (len + lo) + value * 2 ^ lo + word % 2 ^ lo
