-- The proofs of the laws of masks, bit by bit.
use Rattle.std.specs.Prelude.{ℕ, ◌≡◌, ◌+◌, ◌-◌, ◌/◌, ◌%◌, ◌^◌, ◌<◌, ◌≤◌, bit_and, min, max}
use Rattle.std.proofs.Common.{sym, ◌∙◌, ap, arith}
use Rattle.std.proofs.lemmas.Nat.{and_assoc, and_comm, and_shr, and_mod, and_le_r, or_lt}
use Rattle.std.proofs.lemmas.Nat.Bits.{bit_at_and, bit_at_or, bit_at_not, bit_at_ones, bit_at-zero, bit_at-lt, same_from_bits, same_from_bits_below}
use Rattle.std.specs.Int.{bit_at, w64}
use Rattle.std.specs.Int.Bits.{and_self}
use Rattle.ctr_bits.specs.Field.{field_of, with_field}
use Rattle.ctr_bits.specs.Mask.{with_masked}
use Rattle.ctr_bits.specs.FieldBits.{same_field, bit_of_field, put_bit_below, put_bit_above}
use Rattle.ctr_bits.specs.FieldLaws.{same_in_parts}
use Rattle.ctr_bits.specs.MaskLaws.{NarrowerMaskCounts, MaskTwice, FieldOfMasked, FieldInMask, FieldOffMask, PutLeavesMask, PutStaysWithin, MergedOnMask, MergedOffMask, MergedStaysWithin, MergedFits, FieldOfMergedIn, FieldOfMergedOff}

pub narrower_mask_counts : NarrowerMaskCounts
narrower_mask_counts mask narrower value e = and_assoc narrower value mask ∙ ap (λ (n : ℕ). bit_and value n) e

pub mask_twice : MaskTwice
mask_twice mask value = narrower_mask_counts mask mask value (and_self mask)

pub field_of_masked : FieldOfMasked
field_of_masked lo len mask word = ap (λ (n : ℕ). n % 2 ^ len) (and_shr word mask lo) ∙ and_mod (word / 2 ^ lo) (mask / 2 ^ lo) len

-- within a field that a mask has whole each bit is 1
pub bit_of_whole : (lo len mask i : ℕ) → field_of lo len mask ≡ 2 ^ len - 1 → lo ≤ i → i < lo + len → bit_at mask i ≡ 1
bit_of_whole lo len mask i whole p q =
    bit_of_field lo len mask i p q ∙ ap (λ (n : ℕ). bit_at n (i - lo)) whole ∙ bit_at_ones len (i - lo) (omega arith)

-- and within one that it has no bit of, 0
pub bit_of_none : (lo len mask i : ℕ) → field_of lo len mask ≡ 0 → lo ≤ i → i < lo + len → bit_at mask i ≡ 0
bit_of_none lo len mask i none p q = bit_of_field lo len mask i p q ∙ ap (λ (n : ℕ). bit_at n (i - lo)) none ∙ bit_at-zero (i - lo)

pub field_in_mask : FieldInMask
field_in_mask lo len mask word whole = same_field lo len (bit_and word mask) word (λ i p q.
    omega (arith, bit_at_and word mask i, bit_of_whole lo len mask i whole p q, bit_at-lt word i))

pub field_off_mask : FieldOffMask
field_off_mask lo len mask word none = field_of_masked lo len mask word ∙ ap (λ (n : ℕ). bit_and (field_of lo len word) n) none ∙ and_comm (field_of lo len word) 0

pub put_leaves_mask : PutLeavesMask
put_leaves_mask lo len mask word value fits none =
    let new = with_field lo len word value in
    same_in_parts lo len (bit_and new mask) (bit_and word mask)
    (λ i p. omega (arith, bit_at_and new mask i, bit_at_and word mask i, put_bit_below lo len word value i p))
    (λ i p q. omega (arith, bit_at_and new mask i, bit_at_and word mask i, bit_of_none lo len mask i none p (omega arith)))
    (λ i p. omega (arith, bit_at_and new mask i, bit_at_and word mask i, put_bit_above lo len word value i fits p))

-- a bit of a word that lies within a mask
pub bit_within : (mask word i : ℕ) → bit_and word mask ≡ word → min (bit_at word i) (bit_at mask i) ≡ bit_at word i
bit_within mask word i e = sym (bit_at_and word mask i) ∙ ap (λ (n : ℕ). bit_at n i) e

pub put_stays_within : PutStaysWithin
put_stays_within lo len mask word value fits whole within =
    let new = with_field lo len word value in
    same_in_parts lo len (bit_and new mask) new
    (λ i p. omega (arith, bit_at_and new mask i, bit_within mask word i within, put_bit_below lo len word value i p))
    (λ i p q. omega (arith, bit_at_and new mask i, bit_of_whole lo len mask i whole p (omega arith), bit_at-lt new i))
    (λ i p. omega (arith, bit_at_and new mask i, bit_within mask word i within, put_bit_above lo len word value i fits p))

-- a bit of a masked write
pub merged_bit : (mask old value i : ℕ) → mask < 2 ^ 64 → i < 64
    → bit_at (with_masked mask old value) i ≡ max (min (bit_at old i) (1 - bit_at mask i)) (min (bit_at value i) (bit_at mask i))
merged_bit mask old value i small p =
    let off = bit_and old (2 ^ 64 - 1 - mask) in
    let on = bit_and value mask in
    omega (arith, bit_at_or off on i, bit_at_and old (2 ^ 64 - 1 - mask) i, bit_at_and value mask i, bit_at_not w64 mask i small p)

pub merged_on_mask : MergedOnMask
merged_on_mask mask old value small =
    let new = with_masked mask old value in
    same_from_bits_below 64 (bit_and new mask) (bit_and value mask) (omega (arith, and_le_r new mask)) (omega (arith, and_le_r value mask)) (λ i p.
    omega (arith, bit_at_and new mask i, bit_at_and value mask i, merged_bit mask old value i small p, bit_at-lt mask i, bit_at-lt value i, bit_at-lt old i))

pub merged_off_mask : MergedOffMask
merged_off_mask mask others old value small few apart =
    let new = with_masked mask old value in
    same_from_bits_below 64 (bit_and new others) (bit_and old others) (omega (arith, and_le_r new others)) (omega (arith, and_le_r old others)) (λ i p.
    let none : min (bit_at mask i) (bit_at others i) ≡ 0 = sym (bit_at_and mask others i) ∙ ap (λ (n : ℕ). bit_at n i) apart ∙ bit_at-zero i in
    omega (arith, bit_at_and new others i, bit_at_and old others i, merged_bit mask old value i small p, none, bit_at-lt mask i, bit_at-lt others i, bit_at-lt value i, bit_at-lt old i))

pub merged_stays_within : MergedStaysWithin
merged_stays_within mask kept old value wider within =
    let new = with_masked mask old value in
    let not = 2 ^ 64 - 1 - mask in
    let off = bit_and old not in
    let on = bit_and value mask in
    same_from_bits (bit_and new kept) new (λ i.
    omega (arith, bit_at_and new kept i, bit_at_or off on i, bit_at_and old not i, bit_at_and value mask i, bit_within kept mask i wider, bit_within kept old i within))

pub merged_fits : MergedFits
merged_fits mask old value small =
    or_lt 64 (bit_and old (2 ^ 64 - 1 - mask)) (bit_and value mask)
    (omega (arith, and_le_r old (2 ^ 64 - 1 - mask))) (omega (arith, and_le_r value mask))

pub field_of_merged_in : FieldOfMergedIn
field_of_merged_in lo len mask old value small room whole = same_field lo len (with_masked mask old value) value (λ i p q.
    omega (arith, merged_bit mask old value i small (omega arith), bit_of_whole lo len mask i whole p q, bit_at-lt value i))

pub field_of_merged_off : FieldOfMergedOff
field_of_merged_off lo len mask old value small room none = same_field lo len (with_masked mask old value) old (λ i p q.
    omega (arith, merged_bit mask old value i small (omega arith), bit_of_none lo len mask i none p q, bit_at-lt old i))
