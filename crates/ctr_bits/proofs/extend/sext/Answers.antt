use Rattle.std.proofs.Common.{ℕ, ◌≡◌, ◌*◌, ◌-◌, ◌%◌, ◌^◌, ◌∙◌, ap}
use Rattle.std.proofs.lemmas.Int.{of_z-to_z}
use Rattle.std.proofs.lemmas.Nat.{mod_below, pow_pos}
use Rattle.std.specs.Int.{w64, cast_signed, cast_unsigned, int_shr}
use Rattle.ctr_bits.proofs.Words.{sext_is}
use Rattle.ctr_bits.proofs.extend.sext.Goals as goal

pub returns : goal.returns
returns c =
    let above = 64 - c.args.bits in
    let moved = c.args.value * 2 ^ above % 2 ^ 64 in
    let back = λ (n : ℕ). cast_unsigned w64 (cast_signed w64 (cast_unsigned w64 (int_shr (cast_signed w64 n) above))) in
    let read : cast_unsigned w64 c.cast_signed.result ≡ moved =
    ap (cast_unsigned w64) c.cast_signed.ensures ∙ of_z-to_z w64 moved (mod_below (c.args.value * 2 ^ above) (2 ^ 64) (pow_pos 64)) in
    c.cast_unsigned.ensures ∙ ap back read ∙ sext_is c.args.value c.args.bits c.requires.some c.requires.in_word c.requires.fits
