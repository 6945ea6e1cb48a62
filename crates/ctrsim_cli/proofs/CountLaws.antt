-- Bytes counted one by one, and many at once.
use Rattle.std.proofs.Common.{◌≡◌, refl, sym, ap, ◌∙◌, arith, ℕ, suc, ◌+◌, ◌%◌, ◌^◌, ◌<◌, ◌≤◌}
use Rattle.std.proofs.Common.{List, [], ◌∷◌, length, take, drop, nat_eq, false, take-add}
use Rattle.std.proofs.lemmas.List.{length-drop, length-take-le}
use Rattle.std.proofs.lemmas.Grind.{fold-append}
use Rattle.ctrsim_cli.specs.declared.counting.Counter.{Counter}
use Rattle.ctrsim_cli.specs.Counted.{size_after, next_place, count_byte, counted, passed}

-- a byte inside a sample, before its last
one_passed : (c : Counter) (b : ℕ) → 8 ≤ c.at → c.at + 1 < c.size → c.size < 2 ^ 64 → count_byte c b ≡ passed c 1
one_passed c b past before fits =
    let six : nat_eq c.at 6 ≡ false = grind (arith, past) in
    let seven : nat_eq c.at 7 ≡ false = grind (arith, past) in
    let size : size_after c b ≡ c.size = rw (six, seven) refl in
    let place : next_place c ≡ c.at + 1 = grind (arith, before, fits) in
    let other : nat_eq (next_place c) (size_after c b) ≡ false = rw (size, place) (grind (arith, before)) in
    rw (other, size, place) refl

mod_more : (b n : ℕ) → ((b + 1) % 2 ^ 64 + n) % 2 ^ 64 ≡ (b + suc n) % 2 ^ 64
mod_more b n = grind arith

pub many_passed : (c : Counter) (x : ℕ) (xs : List ℕ) → 8 ≤ c.at → c.at + suc (length xs) < c.size → c.size < 2 ^ 64 → counted c (x ∷ xs) ≡ passed c (suc (length xs))
many_passed c x [] past before fits = one_passed c x past (omega (arith, before)) fits
many_passed c x (y ∷ xs) past before fits =
    let d = passed c 1 in
    let place : c.at + 1 + suc (length xs) ≡ c.at + suc (suc (length xs)) = omega arith in
    ap (λ (e : Counter). counted e (y ∷ xs)) (one_passed c x past (omega (arith, before)) fits)
    ∙ many_passed d y xs (omega (arith, past)) (omega (arith, before)) fits
    ∙ rw (mod_more c.bytes (suc (length xs)), place) refl

-- so many bytes more of a piece
pub piece_passed : (c d : Counter) (piece : List ℕ) (at n : ℕ) → d ≡ counted c (take at piece) → 0 < n → at + n ≤ length piece → 8 ≤ d.at → d.at + n < d.size → d.size < 2 ^ 64
    → passed d n ≡ counted c (take (at + n) piece)
piece_passed c d piece at n is some within past before fits =
    let xs = take n (drop at piece) in
    let size : length xs ≡ n = length-take-le n (drop at piece) (omega (arith, within, length-drop at piece)) in
    by_list xs size ∙ ap (λ (e : Counter). counted e xs) is ∙ sym (fold-append count_byte c (take at piece) xs) ∙ ap (counted c) (sym (take-add at n piece))
  where
    by_list : (xs : List ℕ) → length xs ≡ n → passed d n ≡ counted d xs
    by_list [] e = absurd (omega (arith, e, some))
    by_list (y ∷ ys) e = ap (passed d) (sym e) ∙ sym (many_passed d y ys past (omega (arith, before, e)) fits)
