-- Digits one after the other.
use Rattle.std.proofs.Common.{◌≡◌, ℕ, ◌+◌, ◌-◌, ◌*◌, ◌^◌, ◌<◌, ◌≤◌, List, [], ◌∷◌, slice_index_or, take, length, ap, ◌∙◌, add-one, arith}
use Rattle.std.proofs.lemmas.List.{take_more}
use Rattle.std.proofs.lemmas.List.Sums.{fold-append}
use Rattle.std.proofs.Math.Nat.{pow-succ', pow-le-pow_right}
use Rattle.ctrsim_cli.specs.Numbers.{value_of, hex_digit, hex_value_of}

pub value_more : (word : List ℕ) (i : ℕ) → i < length word → value_of (take (i + 1) word) ≡ 10 * value_of (take i word) + (slice_index_or word i 0 - 48)
value_more word i within = ap value_of (take_more word i 0 within) ∙ fold-append (λ n b. 10 * n + (b - 48)) 0 (take i word) (slice_index_or word i 0 ∷ [])

pub ten_more : (i : ℕ) → 10 ^ (i + 1) ≡ 10 * 10 ^ i
ten_more i = rw add-one (pow-succ' 10 i)

-- numbers of few digits are small
pub ten_small : (i most : ℕ) → i < most → most ≤ 16 → 10 ^ i ≤ 1000000000000000
ten_small i most within few = pow-le-pow_right {n = 10} (omega arith) {i = i} {j = 15} (omega (arith, within, few))

pub sixteen_small : (i : ℕ) → i < 16 → 16 ^ i ≤ 1152921504606846976
sixteen_small i within = pow-le-pow_right {n = 16} (omega arith) {i = i} {j = 15} (omega (arith, within))

pub hex_value_more : (word : List ℕ) (i : ℕ) → i < length word → hex_value_of (take (i + 1) word) ≡ 16 * hex_value_of (take i word) + hex_digit (slice_index_or word i 0)
hex_value_more word i within = ap hex_value_of (take_more word i 0 within) ∙ fold-append (λ n b. 16 * n + hex_digit b) 0 (take i word) (slice_index_or word i 0 ∷ [])

pub sixteen_more : (i : ℕ) → 16 ^ (i + 1) ≡ 16 * 16 ^ i
sixteen_more i = rw add-one (pow-succ' 16 i)
