-- The bits of a field, and of a word with a field put in.
use Rattle.std.specs.Prelude.{ℕ, ◌≡◌, ◌+◌, ◌-◌, ◌*◌, ◌/◌, ◌%◌, ◌^◌, ◌<◌, ◌≤◌}
use Rattle.std.proofs.Common.{sym, ◌∙◌, ap, inl, inr, add_assoc, arith}
use Rattle.std.proofs.Math.Nat.{mul_comm}
use Rattle.std.proofs.lemmas.Bool.{cases_lt}
use Rattle.std.proofs.lemmas.Nat.{pow-add, pow_pos, shr-shr, shr_split, mod_below, mul-add-lt}
use Rattle.std.proofs.lemmas.Nat.Bits.{bit_at_cat_low, bit_at_cat_high, bit_at_above, same_from_bits}
use Rattle.std.specs.Int.{bit_at}
use Rattle.ctr_bits.specs.Field.{field_of, with_field}

-- what lies below the end of a field is below the power of two there
pub inside_fits : (lo len value low : ℕ) → value < 2 ^ len → low < 2 ^ lo → value * 2 ^ lo + low < 2 ^ (len + lo)
inside_fits lo len value low p q =
    let bound : value * 2 ^ lo + low < 2 ^ lo * 2 ^ len = mul-add-lt value (2 ^ lo) low (2 ^ len) p q in
    let whole : 2 ^ lo * 2 ^ len ≡ 2 ^ (len + lo) = mul_comm (2 ^ lo) (2 ^ len) ∙ sym (pow-add 2 len lo) in
    rw (sym whole) bound

pub low_bit : (word k i : ℕ) → i < k → bit_at (word % 2 ^ k) i ≡ bit_at word i
low_bit word k i p = sym (bit_at_cat_low (word / 2 ^ k) k (word % 2 ^ k) i p) ∙ ap (λ (n : ℕ). bit_at n i) (shr_split word k)

pub high_bit : (word k i : ℕ) → bit_at (word / 2 ^ k) i ≡ bit_at word (k + i)
high_bit word k i = ap (λ (n : ℕ). n % 2) (shr-shr word k i)

-- bit i of a field is bit lo + i of the word
pub field_bit : (lo len word i : ℕ) → i < len → bit_at (field_of lo len word) i ≡ bit_at word (lo + i)
field_bit lo len word i p = low_bit (word / 2 ^ lo) len i p ∙ high_bit word lo i

pub field_bit_above : (lo len word i : ℕ) → len ≤ i → bit_at (field_of lo len word) i ≡ 0
field_bit_above lo len word i p = bit_at_above (field_of lo len word) len i (mod_below (word / 2 ^ lo) (2 ^ len) (pow_pos len)) p

-- words with the same bits there have the same field
pub same_field : (lo len a b : ℕ) → ((i : ℕ) → lo ≤ i → i < lo + len → bit_at a i ≡ bit_at b i) → field_of lo len a ≡ field_of lo len b
same_field lo len a b same = same_from_bits (field_of lo len a) (field_of lo len b) (λ i. elim (cases_lt i len) [
  | inl p ↦ field_bit lo len a i p ∙ same (lo + i) (omega arith) (omega arith) ∙ sym (field_bit lo len b i p)
  | inr p ↦ field_bit_above lo len a i p ∙ sym (field_bit_above lo len b i p)
])

-- a bit of the word within a field is a bit of the field
pub bit_of_field : (lo len word i : ℕ) → lo ≤ i → i < lo + len → bit_at word i ≡ bit_at (field_of lo len word) (i - lo)
bit_of_field lo len word i p q =
    let e : lo + (i - lo) ≡ i = omega arith in
    sym (ap (λ (k : ℕ). bit_at word k) e) ∙ sym (field_bit lo len word (i - lo) (omega arith))

-- the three parts of a word with a field put in
pub put_bit_below : (lo len word value i : ℕ) → i < lo → bit_at (with_field lo len word value) i ≡ bit_at word i
put_bit_below lo len word value i p =
    ap (λ (n : ℕ). bit_at n i) (add_assoc (word / 2 ^ (len + lo) * 2 ^ (len + lo)) (value * 2 ^ lo) (word % 2 ^ lo))
    ∙ bit_at_cat_low (word / 2 ^ (len + lo)) (len + lo) (value * 2 ^ lo + word % 2 ^ lo) i (omega arith)
    ∙ bit_at_cat_low value lo (word % 2 ^ lo) i p
    ∙ low_bit word lo i p

pub put_bit_inside : (lo len word value i : ℕ) → lo ≤ i → i < len + lo → bit_at (with_field lo len word value) i ≡ bit_at value (i - lo)
put_bit_inside lo len word value i p q =
    ap (λ (n : ℕ). bit_at n i) (add_assoc (word / 2 ^ (len + lo) * 2 ^ (len + lo)) (value * 2 ^ lo) (word % 2 ^ lo))
    ∙ bit_at_cat_low (word / 2 ^ (len + lo)) (len + lo) (value * 2 ^ lo + word % 2 ^ lo) i q
    ∙ bit_at_cat_high value lo (word % 2 ^ lo) i (mod_below word (2 ^ lo) (pow_pos lo)) p

pub put_bit_above : (lo len word value i : ℕ) → value < 2 ^ len → len + lo ≤ i → bit_at (with_field lo len word value) i ≡ bit_at word i
put_bit_above lo len word value i fits p =
    let end = len + lo in
    let bound : value * 2 ^ lo + word % 2 ^ lo < 2 ^ (len + lo) = inside_fits lo len value (word % 2 ^ lo) fits (mod_below word (2 ^ lo) (pow_pos lo)) in
    ap (λ (n : ℕ). bit_at n i) (add_assoc (word / 2 ^ (len + lo) * 2 ^ (len + lo)) (value * 2 ^ lo) (word % 2 ^ lo))
    ∙ bit_at_cat_high (word / 2 ^ (len + lo)) (len + lo) (value * 2 ^ lo + word % 2 ^ lo) i bound p
    ∙ sym (bit_at_cat_high (word / 2 ^ (len + lo)) (len + lo) (word % 2 ^ (len + lo)) i (mod_below word (2 ^ (len + lo)) (pow_pos (len + lo))) p)
    ∙ ap (λ (n : ℕ). bit_at n i) (shr_split word (len + lo))
