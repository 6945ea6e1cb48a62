-- What the shifts and masks of this crate's code compute, over plain variables.
use Rattle.std.proofs.Common.{◌≡◌, ℕ, ℤ, negsuc, suc, ◌+◌, ◌-◌, ◌*◌, ◌/◌, ◌%◌, ◌^◌, ◌<◌, ◌≤◌, bit_and, bit_or, sym, ◌∙◌, ap, inl, inr, arith, add-zero}
use Rattle.std.proofs.Math.Nat.{mul-sub, mul_comm, mul-lt-mul_of_pos_right, mul-le-mul_right, pow-le-pow_right}
use Rattle.std.proofs.lemmas.Bool.{cases_lt, le-ltb, lt-ltb, cond-false, cond-true}
use Rattle.std.proofs.lemmas.Nat.{and_mask, or_lt, pow-add, pow_pos, shl_whole, shr_high, mod_below, and_le_r}
use Rattle.std.proofs.lemmas.Int.{to_z_pos, of_z-to_z}
use Rattle.std.proofs.lemmas.Nat.Bits.{ones_shr, bit_at_and, bit_at_or, bit_at_not, bit_at_ones, bit_at_ones_above, bit_at-zero, bit_at-lt, bit_at_above, bit_at_cat_low, bit_at_cat_high, same_from_bits_below}
use Rattle.std.specs.Int.{bit_at, w64, cast_signed, cast_unsigned, int_shr}
use Rattle.ctr_bits.specs.Field.{field_of, with_field}
use Rattle.ctr_bits.specs.Sext.{sign_extension}
use Rattle.ctr_bits.specs.SextLaws.{extended_fits}
use Rattle.ctr_bits.specs.FieldBits.{put_bit_below, put_bit_inside, put_bit_above}
use Rattle.ctr_bits.specs.FieldLaws.{put_fits}

-- the greatest word shifted down so that len bits are left
pub ones_of : (len : ℕ) → len ≤ 64 → (2 ^ 64 - 1) / 2 ^ (64 - len) ≡ 2 ^ len - 1
ones_of len p =
    let e : 64 - (64 - len) ≡ len = omega arith in
    ones_shr 64 (64 - len) (omega arith) ∙ ap (λ (k : ℕ). 2 ^ k - 1) e

pub get_is : (word lo len : ℕ) → len ≤ 64 → bit_and (word / 2 ^ lo) ((2 ^ 64 - 1) / 2 ^ (64 - len)) ≡ field_of lo len word
get_is word lo len p = ap (λ (m : ℕ). bit_and (word / 2 ^ lo) m) (ones_of len p) ∙ and_mask (word / 2 ^ lo) len

pub get_below : (word lo len : ℕ) → len ≤ 64 → bit_and (word / 2 ^ lo) ((2 ^ 64 - 1) / 2 ^ (64 - len)) < 2 ^ len
get_below word lo len p =
    let e = get_is word lo len p in
    let bound : field_of lo len word < 2 ^ len = mod_below (word / 2 ^ lo) (2 ^ len) (pow_pos len) in
    rw e bound

-- the bits of a value that is shifted up
pub shl_bit_below : (value lo i : ℕ) → i < lo → bit_at (value * 2 ^ lo) i ≡ 0
shl_bit_below value lo i p = ap (λ (n : ℕ). bit_at n i) (sym (add-zero (value * 2 ^ lo))) ∙ bit_at_cat_low value lo 0 i p ∙ bit_at-zero i

pub shl_bit_above : (value lo i : ℕ) → lo ≤ i → bit_at (value * 2 ^ lo) i ≡ bit_at value (i - lo)
shl_bit_above value lo i p = ap (λ (n : ℕ). bit_at n i) (sym (add-zero (value * 2 ^ lo))) ∙ bit_at_cat_high value lo 0 i (pow_pos lo) p

pub put_is : (word value lo len mask moved : ℕ) → lo + len ≤ 64 → word < 2 ^ 64 → value < 2 ^ len
    → mask ≡ (2 ^ len - 1) * 2 ^ lo → moved ≡ value * 2 ^ lo → mask < 2 ^ 64 → moved < 2 ^ 64
    → bit_or (bit_and word (2 ^ 64 - 1 - mask)) moved ≡ with_field lo len word value
put_is word value lo len mask moved room small fits is_mask is_moved mask_small moved_small =
    let not = 2 ^ 64 - 1 - mask in
    let rest = bit_and word not in
    same_from_bits_below 64 (bit_or rest moved) (with_field lo len word value)
    (or_lt 64 rest moved (omega (arith, and_le_r word not)) moved_small)
    (put_fits lo len word value 64 fits (omega arith) small)
    (λ i p.
    let parts = bit_at_or rest moved i in
    let kept = bit_at_and word not i in
    let other = bit_at_not w64 mask i mask_small p in
    let mask_bit = ap (λ (n : ℕ). bit_at n i) is_mask in
    let moved_bit = ap (λ (n : ℕ). bit_at n i) is_moved in
    elim (cases_lt i lo) [
      | inl q ↦ omega (
        arith,
        parts,
        kept,
        other,
        mask_bit,
        moved_bit,
        shl_bit_below (2 ^ len - 1) lo i q,
        shl_bit_below value lo i q,
        put_bit_below lo len word value i q,
        bit_at-lt word i,
      )
      | inr q ↦ elim (cases_lt i (len + lo)) [
        | inl r ↦ omega (
          arith,
          parts,
          kept,
          other,
          mask_bit,
          moved_bit,
          shl_bit_above (2 ^ len - 1) lo i q,
          shl_bit_above value lo i q,
          bit_at_ones len (i - lo) (omega arith),
          put_bit_inside lo len word value i q r,
        )
        | inr r ↦ omega (
          arith,
          parts,
          kept,
          other,
          mask_bit,
          moved_bit,
          shl_bit_above (2 ^ len - 1) lo i q,
          shl_bit_above value lo i q,
          bit_at_ones_above len (i - lo) (omega arith),
          bit_at_above value len (i - lo) fits (omega arith),
          put_bit_above lo len word value i fits r,
          bit_at-lt word i,
        )
      ]
    ])

-- what is shifted up within a word stays whole
pub moved_whole : (value lo len : ℕ) → lo + len ≤ 64 → value < 2 ^ len → value * 2 ^ lo % 2 ^ 64 ≡ value * 2 ^ lo
moved_whole value lo len room fits = shl_whole value len lo 64 fits (omega arith)

pub mask_whole : (lo len : ℕ) → lo + len ≤ 64 → (2 ^ 64 - 1) / 2 ^ (64 - len) * 2 ^ lo % 2 ^ 64 ≡ (2 ^ len - 1) * 2 ^ lo
mask_whole lo len room =
    ap (λ (n : ℕ). n * 2 ^ lo % 2 ^ 64) (ones_of len (omega arith))
    ∙ moved_whole (2 ^ len - 1) lo len room (omega (arith, pow_pos len))

pub put_gives : (word value lo len : ℕ) → lo + len ≤ 64 → word < 2 ^ 64 → value < 2 ^ len
    → bit_or (bit_and word (2 ^ 64 - 1 - (2 ^ 64 - 1) / 2 ^ (64 - len) * 2 ^ lo % 2 ^ 64)) (value * 2 ^ lo % 2 ^ 64) ≡ with_field lo len word value
put_gives word value lo len room small fits =
    put_is word value lo len _ _ room small fits (mask_whole lo len room) (moved_whole value lo len room fits)
    (mod_below ((2 ^ 64 - 1) / 2 ^ (64 - len) * 2 ^ lo) (2 ^ 64) (pow_pos 64))
    (mod_below (value * 2 ^ lo) (2 ^ 64) (pow_pos 64))

-- a number moved up to the top of a word and back, as a signed word, has its sign bit in all bits above
pub back_below : (value bits above : ℕ) → bits - 1 + above ≡ 63 → value < 2 ^ (bits - 1)
    → cast_unsigned w64 (int_shr (cast_signed w64 (value * 2 ^ above)) above) ≡ value
back_below value bits above room low =
    let half : 2 ^ (bits - 1) * 2 ^ above ≡ 2 ^ 63 = sym (pow-add 2 (bits - 1) above) ∙ ap (λ (k : ℕ). 2 ^ k) room in
    let small : value * 2 ^ above < 2 ^ 63 = rw (sym half) (mul-lt-mul_of_pos_right low (pow_pos above)) in
    ap (λ (z : ℤ). cast_unsigned w64 (int_shr z above)) (to_z_pos w64 (value * 2 ^ above) small)
    ∙ ap (λ (n : ℕ). n / 2 ^ above) (sym (add-zero (value * 2 ^ above)))
    ∙ shr_high value above 0 (pow_pos above)

pub back_above : (value bits above : ℕ) → bits + above ≡ 64 → 1 ≤ bits → 2 ^ (bits - 1) ≤ value → value < 2 ^ bits
    → cast_unsigned w64 (int_shr (cast_signed w64 (value * 2 ^ above)) above) ≡ value + (2 ^ 64 - 2 ^ bits)
back_above value bits above room some high fits =
    let two : 0 < 2 = omega arith in
    let within : bits ≤ 64 = omega (arith, room) in
    let below : bits - 1 + above ≡ 63 = omega (arith, room, some) in
    let bound : 2 ^ bits ≤ 2 ^ 64 = pow-le-pow_right two within in
    let moved = value * 2 ^ above in
    let rest = 2 ^ bits - (value + 1) in
    let full : 2 ^ bits * 2 ^ above ≡ 2 ^ 64 = sym (pow-add 2 bits above) ∙ ap (λ (k : ℕ). 2 ^ k) room in
    let half : 2 ^ (bits - 1) * 2 ^ above ≡ 2 ^ 63 = sym (pow-add 2 (bits - 1) above) ∙ ap (λ (k : ℕ). 2 ^ k) below in
    let large : 2 ^ 63 ≤ moved = rw (sym half) (mul-le-mul_right (2 ^ above) high) in
    let small : moved < 2 ^ 64 = rw (sym full) (mul-lt-mul_of_pos_right fits (pow_pos above)) in
    let next : (value + 1) * 2 ^ above ≡ moved + 2 ^ above = omega arith in
    let left : rest * 2 ^ above ≡ 2 ^ 64 - (moved + 2 ^ above) =
    mul_comm rest (2 ^ above) ∙ mul-sub (2 ^ above) (2 ^ bits) (value + 1)
    ∙ omega (arith, mul_comm (2 ^ above) (2 ^ bits), mul_comm (2 ^ above) (value + 1), full, next) in
    let one_more : value + 1 ≤ 2 ^ bits = omega (arith, fits) in
    let fits_still : (value + 1) * 2 ^ above ≤ 2 ^ 64 = rw (sym full) (mul-le-mul_right (2 ^ above) one_more) in
    let split : 2 ^ 64 - suc moved ≡ rest * 2 ^ above + (2 ^ above - 1) = omega (arith, left, next, fits_still, pow_pos above) in
    let read : cast_signed w64 moved ≡ negsuc (2 ^ 64 - suc moved) = cond-false _ _ _ (le-ltb moved (2 ^ 63) large) in
    ap (λ (z : ℤ). cast_unsigned w64 (int_shr z above)) read
    ∙ ap (λ (n : ℕ). 2 ^ 64 - suc (n / 2 ^ above)) split
    ∙ ap (λ (n : ℕ). 2 ^ 64 - suc n) (shr_high rest above (2 ^ above - 1) (omega (arith, pow_pos above)))
    ∙ omega (arith, fits, bound)

pub back_again : (value bits : ℕ) → 1 ≤ bits → bits ≤ 64 → value < 2 ^ bits
    → cast_unsigned w64 (int_shr (cast_signed w64 (value * 2 ^ (64 - bits) % 2 ^ 64)) (64 - bits)) ≡ sign_extension bits value
back_again value bits some room fits =
    let above = 64 - bits in
    let whole = moved_whole value above bits (omega arith) fits in
    ap (λ (n : ℕ). cast_unsigned w64 (int_shr (cast_signed w64 n) above)) whole
    ∙ elim (cases_lt value (2 ^ (bits - 1))) [
      | inl p ↦ back_below value bits above (omega arith) p ∙ sym (cond-true _ value (value + (2 ^ 64 - 2 ^ bits)) (lt-ltb value (2 ^ (bits - 1)) p))
      | inr p ↦ back_above value bits above (omega arith) some p fits ∙ sym (cond-false _ value (value + (2 ^ 64 - 2 ^ bits)) (le-ltb value (2 ^ (bits - 1)) p))
    ]

-- the code's word, whose signed reading is taken and given back once more
pub sext_is : (value bits : ℕ) → 1 ≤ bits → bits ≤ 64 → value < 2 ^ bits
    → cast_unsigned w64 (cast_signed w64 (cast_unsigned w64 (int_shr (cast_signed w64 (value * 2 ^ (64 - bits) % 2 ^ 64)) (64 - bits)))) ≡ sign_extension bits value
sext_is value bits some room fits =
    ap (λ (n : ℕ). cast_unsigned w64 (cast_signed w64 n)) (back_again value bits some room fits)
    ∙ of_z-to_z w64 (sign_extension bits value) (extended_fits bits value room fits)
