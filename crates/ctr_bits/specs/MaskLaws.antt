-- Laws of masks, over all words.
use Rattle.std.specs.Prelude.{ℕ, ◌≡◌, ◌+◌, ◌-◌, ◌^◌, ◌<◌, ◌≤◌, bit_and}
use Rattle.ctr_bits.specs.Field.{field_of, with_field}
use Rattle.ctr_bits.specs.Mask.{with_masked}

-- a second mask that has bits of the first alone counts alone
abbrev pub NarrowerMaskCounts : Type 0
NarrowerMaskCounts = (mask narrower value : ℕ) → bit_and mask narrower ≡ narrower → bit_and (bit_and value mask) narrower ≡ bit_and value narrower

-- to mask twice is to mask once
abbrev pub MaskTwice : Type 0
MaskTwice = (mask value : ℕ) → bit_and (bit_and value mask) mask ≡ bit_and value mask

-- the field of a masked word is the field under the mask's field
abbrev pub FieldOfMasked : Type 0
FieldOfMasked = (lo len mask word : ℕ) → field_of lo len (bit_and word mask) ≡ bit_and (field_of lo len word) (field_of lo len mask)

-- a mask keeps a field that it has whole
abbrev pub FieldInMask : Type 0
FieldInMask = (lo len mask word : ℕ) → field_of lo len mask ≡ 2 ^ len - 1 → field_of lo len (bit_and word mask) ≡ field_of lo len word

-- a mask clears a field that it has no bit of
abbrev pub FieldOffMask : Type 0
FieldOffMask = (lo len mask word : ℕ) → field_of lo len mask ≡ 0 → field_of lo len (bit_and word mask) ≡ 0

-- a put in a field of which the mask has no bit leaves what the mask shows
abbrev pub PutLeavesMask : Type 0
PutLeavesMask = (lo len mask word value : ℕ) → value < 2 ^ len → field_of lo len mask ≡ 0 → bit_and (with_field lo len word value) mask ≡ bit_and word mask

-- a put in a field that the mask has whole stays within the mask
abbrev pub PutStaysWithin : Type 0
PutStaysWithin = (lo len mask word value : ℕ) → value < 2 ^ len → field_of lo len mask ≡ 2 ^ len - 1 → bit_and word mask ≡ word
    → bit_and (with_field lo len word value) mask ≡ with_field lo len word value

-- after a masked write the mask's bits are the value's
abbrev pub MergedOnMask : Type 0
MergedOnMask = (mask old value : ℕ) → mask < 2 ^ 64 → bit_and (with_masked mask old value) mask ≡ bit_and value mask

-- and all bits that it doesn't have are the old ones
abbrev pub MergedOffMask : Type 0
MergedOffMask = (mask others old value : ℕ) → mask < 2 ^ 64 → others < 2 ^ 64 → bit_and mask others ≡ 0
    → bit_and (with_masked mask old value) others ≡ bit_and old others

-- a masked write stays within a wider mask, if the old word does
abbrev pub MergedStaysWithin : Type 0
MergedStaysWithin = (mask kept old value : ℕ) → bit_and mask kept ≡ mask → bit_and old kept ≡ old → bit_and (with_masked mask old value) kept ≡ with_masked mask old value

-- a masked write of a word of 64 bits gives one
abbrev pub MergedFits : Type 0
MergedFits = (mask old value : ℕ) → mask < 2 ^ 64 → with_masked mask old value < 2 ^ 64

-- a field that the mask has whole is the value's
abbrev pub FieldOfMergedIn : Type 0
FieldOfMergedIn = (lo len mask old value : ℕ) → mask < 2 ^ 64 → lo + len ≤ 64 → field_of lo len mask ≡ 2 ^ len - 1
    → field_of lo len (with_masked mask old value) ≡ field_of lo len value

-- a field that the mask has no bit of is the old one
abbrev pub FieldOfMergedOff : Type 0
FieldOfMergedOff = (lo len mask old value : ℕ) → mask < 2 ^ 64 → lo + len ≤ 64 → field_of lo len mask ≡ 0
    → field_of lo len (with_masked mask old value) ≡ field_of lo len old
