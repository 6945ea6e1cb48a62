-- An offset by its highest bit.
use Rattle.std.proofs.Common.{ℕ, ℤ, suc, pos, negsuc, ◌≡◌, ◌-◌, ◌^◌, ◌<◌, ◌≤◌, int_lt, false, sym, ◌∙◌, ap, inl, inr, arith}
use Rattle.std.proofs.lemmas.Bool.{cases_lt, le-leb, lt-leb, le-ltb}
use Rattle.std.proofs.lemmas.Int.{ints}
use Rattle.std.specs.Int.{w64, cast_signed}
use Rattle.xfer_class.specs.MissedLaws.{BackwardIsNegative}

pub forward_is : (off : ℕ) → off < 2 ^ 63 → cast_signed w64 off ≡ pos off
forward_is off less = grind (arith, ints)

pub backward_is : (off : ℕ) → 2 ^ 63 ≤ off → off < 2 ^ 64
    → cast_signed w64 off ≡ negsuc (2 ^ 64 - suc off)
backward_is off least fits = grind (arith, ints)

pub forward_not_below : (off : ℕ) → int_lt (pos off) (pos 0) ≡ false
forward_not_below off = le-ltb off 0 (omega arith)

pub backward_is_negative : BackwardIsNegative
backward_is_negative off fits = elim (cases_lt off (2 ^ 63)) [
  | inl less ↦
      lt-leb (2 ^ 63) off less ∙ sym (forward_not_below off)
      ∙ sym (ap (λ (z : ℤ). int_lt z (pos 0)) (forward_is off less))
  | inr least ↦
      le-leb (2 ^ 63) off least
      ∙ sym (ap (λ (z : ℤ). int_lt z (pos 0)) (backward_is off least fits))
]
