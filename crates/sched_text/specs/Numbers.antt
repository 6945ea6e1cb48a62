-- The numbers that words spell.
use Rattle.std.specs.Prelude.{ℕ, ◌+◌, ◌*◌, ◌-◌, ◌^◌, min, Bool, false, if◌then◌else◌, nat_lt, List}
use Rattle.std.specs.Prelude.{[], ◌∷◌, Option, Some, None}
use Rattle.std.specs.List.{fold, list_all}

-- the number that a digit stands for, of either case, or 16
abbrev pub digit_value : ℕ → ℕ
digit_value b =
    if nat_lt b 48 then 16 else if nat_lt b 58 then b - 48
    else if nat_lt b 65 then 16 else if nat_lt b 71 then b - 55
    else if nat_lt b 97 then 16 else if nat_lt b 103 then b - 87
    else 16

abbrev pub digits_value : ℕ → List ℕ → ℕ
digits_value base digits = fold (λ n b. n * base + digit_value b) 0 digits

-- one digit at least, and nothing else
abbrev pub are_digits : ℕ → List ℕ → Bool
are_digits base [] = false
are_digits base (b ∷ bs) = list_all (λ d. nat_lt (digit_value d) base) (b ∷ bs)

-- one past the end of 64 bits counts as 2 ^ 64, since no range reaches so far
abbrev pub number : ℕ → List ℕ → Option ℕ
number base w = if are_digits base w then Some (min (digits_value base w) (2 ^ 64)) else None

-- a number without a range of its own, as it is kept
abbrev pub kept : ℕ → ℕ
kept n = min n (2 ^ 64 - 1)
