-- Numbers of the command line: digits alone, where leading zeros are accepted and a sign is no digit.
use Rattle.std.specs.Prelude.{◌≡◌, ◌⊎◌, ℕ, ◌+◌, ◌-◌, ◌*◌, ◌≤◌, List, length, fold, All, cond, nat_le}

abbrev pub IsDigit : ℕ → Type 0
IsDigit b = (48 ≤ b) × (b ≤ 57)

-- the value of decimal digits, the highest first
abbrev pub value_of : List ℕ → ℕ
value_of digits = fold (λ n b. 10 * n + (b - 48)) 0 digits

-- a decimal number of at most so many digits
pub record IsDecimal (most : ℕ) (word : List ℕ) (n : ℕ) : Type 0 where
  pub some : 1 ≤ length word
  pub few : length word ≤ most
  pub digits : All IsDigit word
  pub value : n ≡ value_of word

-- 0 to 9, A to F and a to f
abbrev pub IsHexDigit : ℕ → Type 0
IsHexDigit b = ((48 ≤ b) × (b ≤ 57)) ⊎ (((65 ≤ b) × (b ≤ 70)) ⊎ ((97 ≤ b) × (b ≤ 102)))

-- the number that such a digit stands for
abbrev pub hex_digit : ℕ → ℕ
hex_digit b = cond (nat_le b 57) (b - 48) (cond (nat_le b 70) (b - 55) (b - 87))

abbrev pub hex_value_of : List ℕ → ℕ
hex_value_of digits = fold (λ n b. 16 * n + hex_digit b) 0 digits

-- a hexadecimal number of at most 16 digits
pub record IsHexadecimal (word : List ℕ) (n : ℕ) : Type 0 where
  pub some : 1 ≤ length word
  pub few : length word ≤ 16
  pub digits : All IsHexDigit word
  pub value : n ≡ hex_value_of word
