-- Decimal digits, the last first.
use Rattle.std.proofs.Common.{◌≡◌, ℕ, ◌+◌, ◌/◌, ◌%◌, ◌^◌, ◌<◌, ◌≤◌, List, [], ◌∷◌, ◌++◌, length, arith, sym, ap, ◌∙◌, append_assoc, length-append, append-nil, zero, suc, ◌-◌, ◌*◌, false}
use Rattle.std.proofs.lemmas.Fmt.{decimal_step, decimal_digit, decimal_nonempty, length-decimal-le}
use Rattle.std.specs.Fmt.{digit_glyph}
use Rattle.ctrsim_cli.specs.SampleText.{dec, hex_digits}

-- the last digit moves to what was written
pub dec_step : (n : ℕ) (acc : List ℕ) → 10 ≤ n → n < 2 ^ 64 → dec (n / 10) ++ ((48 + n % 10) ∷ acc) ≡ dec n ++ acc
unfolding dec
dec_step n acc many small =
    sym (append_assoc (dec (n / 10)) ((48 + n % 10) ∷ []) acc) ∙ ap (λ (t : List ℕ). t ++ acc) (sym (decimal_step n many small))

pub dec_digit : (n : ℕ) (acc : List ℕ) → n < 10 → (48 + n) ∷ acc ≡ dec n ++ acc
unfolding dec
dec_digit n acc few = ap (λ (t : List ℕ). t ++ acc) (sym (decimal_digit n few))

pub dec_most : (n : ℕ) → n < 2 ^ 64 → length (dec n) ≤ 20
unfolding dec
dec_most n small = length-decimal-le 20 n (omega arith) (omega (arith, small)) small

pub dec_some : (n : ℕ) → n < 2 ^ 64 → 0 < length (dec n)
unfolding dec
dec_some n small = decimal_nonempty n small

-- the digits that are left have room
pub dec_room : (n : ℕ) (acc : List ℕ) → 10 ≤ n → n < 2 ^ 64 → length (dec n) + length acc ≤ 20 → length (dec (n / 10)) + (1 + length acc) ≤ 20
dec_room n acc many small room =
    let now = ap length (dec_step n acc many small) in
    omega (arith, room, now, length-append (dec (n / 10)) ((48 + n % 10) ∷ acc), length-append (dec n) acc)

-- one hexadecimal digit more
pub hex_step : (out : List ℕ) (place n : ℕ) → 0 < place → (out ++ (digit_glyph false (n / 2 ^ (4 * (place - 1)) % 16) ∷ [])) ++ hex_digits (place - 1) n ≡ out ++ hex_digits place n
unfolding hex_digits
hex_step out zero n some = absurd (omega (arith, some))
hex_step out (suc k) n some =
    let less : suc k - 1 ≡ k = omega arith in
    ap (λ (j : ℕ). (out ++ (digit_glyph false (n / 2 ^ (4 * j) % 16) ∷ [])) ++ hex_digits j n) less
    ∙ append_assoc out (digit_glyph false (n / 2 ^ (4 * k) % 16) ∷ []) (hex_digits k n)

pub hex_end : (out : List ℕ) (place n : ℕ) → place ≡ 0 → out ++ hex_digits place n ≡ out
unfolding hex_digits
hex_end out zero n none = append-nil out
hex_end out (suc k) n none = absurd (omega (arith, none))
