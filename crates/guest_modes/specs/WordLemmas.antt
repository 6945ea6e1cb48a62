-- Words that lie within a mask, and what writes keep of it.
use Rattle.std.proofs.Common.{ℕ, ◌≡◌, ◌≢◌, ◌-◌, ◌/◌, ◌%◌, ◌^◌, ◌<◌, bit_and, bit_or, sym, ◌∙◌, ap, refl, arith, lit<, lit≤}
use Rattle.std.proofs.lemmas.Nat.{and_assoc, and_comm, mod_below}
use Rattle.std.proofs.lemmas.Nat.Bits.{bit_at_and, bit_at_or, same_from_bits}
use Rattle.ctr_bits.specs.Field.{field_of, with_field}
use Rattle.ctr_bits.specs.FieldLaws.{get_after_put}
use Rattle.ctr_bits.specs.Mask.{with_masked}
use Rattle.ctr_bits.specs.MaskBits.{field_in_mask, put_leaves_mask, put_stays_within, merged_stays_within, field_of_merged_off}
use Rattle.guest_modes.specs.declared.causes.TheConstants.{INTERRUPTS}
use Rattle.guest_modes.specs.declared.registers.Priv.{Priv}
use Rattle.guest_modes.specs.Registers.{shown}
use Rattle.guest_modes.specs.Words.{IsWithin, IsStatus}

pub or_within : (mask a b : ℕ) → IsWithin mask a → IsWithin mask b → IsWithin mask (bit_or a b)
or_within mask a b p q = same_from_bits (bit_and (bit_or a b) mask) (bit_or a b) (λ i.
    let inside_a = bit_at_and a mask i in
    let inside_b = bit_at_and b mask i in
    let same_a = ap (λ (n : ℕ). n / 2 ^ i % 2) p in
    let same_b = ap (λ (n : ℕ). n / 2 ^ i % 2) q in
    omega (arith, bit_at_and (bit_or a b) mask i, bit_at_or a b i, inside_a, inside_b, same_a, same_b))

-- a part of a word within a mask is within it
pub part_within : (mask word part : ℕ) → IsWithin mask word → IsWithin mask (bit_and word part)
part_within mask word part p =
    and_assoc mask word part ∙ ap (λ (n : ℕ). bit_and word n) (and_comm part mask) ∙ sym (and_assoc part word mask) ∙ ap (λ (n : ℕ). bit_and n part) p

-- a number under a part of a mask is within the mask
pub under_part : (mask part value : ℕ) → IsWithin mask part → IsWithin mask (bit_and value part)
under_part mask part value p = and_assoc mask value part ∙ ap (λ (n : ℕ). bit_and value n) p

-- mstatus with a known privilege in MPP
pub status_with_mpp : (word value : ℕ) → IsWithin 0x80000019AA word → value < 4 → value ≢ 2 → IsStatus (with_field 11 2 word value)
status_with_mpp word value within fits known = record {
  kept = put_stays_within 11 2 0x80000019AA word value fits refl within;
  known = λ e. known (sym (get_after_put 11 2 word value fits) ∙ e);
}

-- a field put beside MPP leaves it
pub mpp_stays : (lo len word value : ℕ) → value < 2 ^ len → field_of lo len 0x1800 ≡ 0 → field_of 11 2 (with_field lo len word value) ≡ field_of 11 2 word
mpp_stays lo len word value fits apart =
    let new = with_field lo len word value in
    sym (field_in_mask 11 2 0x1800 new refl) ∙ ap (λ (n : ℕ). field_of 11 2 n) (put_leaves_mask lo len 0x1800 word value fits apart) ∙ field_in_mask 11 2 0x1800 word refl

pub status_with_field : (lo len word value : ℕ) → IsStatus word → value < 2 ^ len → field_of lo len 0x80000019AA ≡ 2 ^ len - 1 → field_of lo len 0x1800 ≡ 0
    → IsStatus (with_field lo len word value)
status_with_field lo len word value status fits kept apart = record {
  kept = put_stays_within lo len 0x80000019AA word value fits kept status.kept;
  known = λ e. status.known (sym (mpp_stays lo len word value fits apart) ∙ e);
}

-- a write of sstatus leaves MPP
pub status_in_part : (word value : ℕ) → IsStatus word → IsStatus (with_masked 0x122 word value)
status_in_part word value status = record {
  kept = merged_stays_within 0x122 0x80000019AA word value refl status.kept;
  known = λ e. status.known (sym (field_of_merged_off 11 2 0x122 word value (lit< tt) (lit≤ tt) refl) ∙ e);
}

-- what VS is shown lies within mie
pub shown_within : (p : Priv) → IsWithin INTERRUPTS (shown p)
shown_within p = or_within INTERRUPTS (bit_and p.hideleg 0x444) (bit_and (bit_and p.mideleg p.hideleg) 0x2000)
    (under_part INTERRUPTS 0x444 p.hideleg refl) (under_part INTERRUPTS 0x2000 (bit_and p.mideleg p.hideleg) refl)

-- what a write of mstatus keeps, with MPP from the old word where the reserved value was written
pub status_rewritten : (old value : ℕ) → IsStatus old → IsStatus (with_field 11 2 (bit_and value 0x80000019AA) (field_of 11 2 old))
status_rewritten old value status =
    status_with_mpp (bit_and value 0x80000019AA) (field_of 11 2 old) (under_part 0x80000019AA 0x80000019AA value refl) (mod_below (old / 2 ^ 11) 4 (lit< tt)) status.known
