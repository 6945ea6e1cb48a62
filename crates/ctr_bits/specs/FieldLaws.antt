-- Laws of fields, over all words and all places.
use Rattle.std.specs.Prelude.{ℕ, ◌≡◌, ◌+◌, ◌-◌, ◌*◌, ◌/◌, ◌%◌, ◌^◌, ◌<◌, ◌≤◌, ◌⊎◌}
use Rattle.std.proofs.Common.{sym, ◌∙◌, ap, inl, inr, add_assoc, arith}
use Rattle.std.proofs.lemmas.Bool.{cases_lt}
use Rattle.std.proofs.lemmas.Nat.{pow_pos, mod_below, shr_below}
use Rattle.std.proofs.lemmas.Nat.Bits.{bit_at_above, same_from_bits}
use Rattle.std.specs.Int.{bit_at}
use Rattle.ctr_bits.specs.Field.{field_of, with_field}
use Rattle.ctr_bits.specs.FieldBits.{same_field, field_bit, field_bit_above, bit_of_field, put_bit_below, put_bit_inside, put_bit_above, inside_fits}

-- what was put is what is read
abbrev pub GetAfterPut : Type 0
GetAfterPut = (lo len word value : ℕ) → value < 2 ^ len → field_of lo len (with_field lo len word value) ≡ value

-- a put leaves every field that shares no bit with its own
abbrev pub PutLeavesOthers : Type 0
PutLeavesOthers = (lo len word value other size : ℕ) → value < 2 ^ len → (other + size ≤ lo) ⊎ (lo + len ≤ other)
    → field_of other size (with_field lo len word value) ≡ field_of other size word

-- to put what is there changes nothing
abbrev pub PutOfGet : Type 0
PutOfGet = (lo len word : ℕ) → with_field lo len word (field_of lo len word) ≡ word

-- of two puts in one field the second counts
abbrev pub LastPutCounts : Type 0
LastPutCounts = (lo len word first second : ℕ) → first < 2 ^ len → second < 2 ^ len
    → with_field lo len (with_field lo len word first) second ≡ with_field lo len word second

-- a word with all its bits below a width keeps them there
abbrev pub PutFits : Type 0
PutFits = (lo len word value width : ℕ) → value < 2 ^ len → len + lo ≤ width → word < 2 ^ width → with_field lo len word value < 2 ^ width

pub get_after_put : GetAfterPut
get_after_put lo len word value fits = same_from_bits (field_of lo len (with_field lo len word value)) value (λ i. elim (cases_lt i len) [
  | inl p ↦
      let e : lo + i - lo ≡ i = omega arith in
      field_bit lo len (with_field lo len word value) i p ∙ put_bit_inside lo len word value (lo + i) (omega arith) (omega arith) ∙ ap (λ (k : ℕ). bit_at value k) e
  | inr p ↦ field_bit_above lo len (with_field lo len word value) i p ∙ sym (bit_at_above value len i fits p)
])

pub put_leaves_others : PutLeavesOthers
put_leaves_others lo len word value other size fits apart = same_field other size (with_field lo len word value) word (λ i p q. elim apart [
  | inl below ↦ put_bit_below lo len word value i (omega arith)
  | inr above ↦ put_bit_above lo len word value i fits (omega arith)
])

-- words are equal where their bits are, below, within and above a field
pub same_in_parts : (lo len a b : ℕ) → ((i : ℕ) → i < lo → bit_at a i ≡ bit_at b i) → ((i : ℕ) → lo ≤ i → i < len + lo → bit_at a i ≡ bit_at b i)
    → ((i : ℕ) → len + lo ≤ i → bit_at a i ≡ bit_at b i) → a ≡ b
same_in_parts lo len a b below inside above = same_from_bits a b (λ i. elim (cases_lt i lo) [
  | inl p ↦ below i p
  | inr p ↦ elim (cases_lt i (len + lo)) [ inl q ↦ inside i p q | inr q ↦ above i q ]
])

pub put_of_get : PutOfGet
put_of_get lo len word =
    let fits : field_of lo len word < 2 ^ len = mod_below (word / 2 ^ lo) (2 ^ len) (pow_pos len) in
    same_in_parts lo len (with_field lo len word (field_of lo len word)) word
    (λ i p. put_bit_below lo len word (field_of lo len word) i p)
    (λ i p q. put_bit_inside lo len word (field_of lo len word) i p q ∙ sym (bit_of_field lo len word i p (omega arith)))
    (λ i p. put_bit_above lo len word (field_of lo len word) i fits p)

pub last_put_counts : LastPutCounts
last_put_counts lo len word first second f s =
    let once = with_field lo len word first in
    same_in_parts lo len (with_field lo len once second) (with_field lo len word second)
    (λ i p. put_bit_below lo len once second i p ∙ put_bit_below lo len word first i p ∙ sym (put_bit_below lo len word second i p))
    (λ i p q. put_bit_inside lo len once second i p q ∙ sym (put_bit_inside lo len word second i p q))
    (λ i p. put_bit_above lo len once second i s p ∙ put_bit_above lo len word first i f p ∙ sym (put_bit_above lo len word second i s p))

pub put_fits : PutFits
put_fits lo len word value width fits within small =
    let rest = width - (len + lo) in
    let split : rest + (len + lo) ≡ width = omega arith in
    let high : word / 2 ^ (len + lo) < 2 ^ rest = shr_below word rest (len + lo) (rw split small) in
    let inside : value * 2 ^ lo + word % 2 ^ lo < 2 ^ (len + lo) = inside_fits lo len value (word % 2 ^ lo) fits (mod_below word (2 ^ lo) (pow_pos lo)) in
    let all : word / 2 ^ (len + lo) * 2 ^ (len + lo) + (value * 2 ^ lo + word % 2 ^ lo) < 2 ^ (rest + (len + lo)) =
    inside_fits (len + lo) rest (word / 2 ^ (len + lo)) (value * 2 ^ lo + word % 2 ^ lo) high inside in
    let shape = add_assoc (word / 2 ^ (len + lo) * 2 ^ (len + lo)) (value * 2 ^ lo) (word % 2 ^ lo) in
    rw shape (rw split at all)
