-- Straight code, piece by piece.
use Rattle.std.proofs.Common.{◌≡◌, ◌⊎◌, inl, inr, ℕ, ◌+◌, ◌%◌, Bool, List, refl, arith, subst}
use Rattle.std.proofs.lemmas.Bool.{cases_lt}
use Rattle.rv_decode.specs.declared.instruction.Instr.{Instr}
use Rattle.rv_decode.specs.declared.instruction.Instr.TheVariants.{Jal, Jalr, Branch, Mret, Sret}
use Rattle.xfer_class.specs.declared.types.XferType.{XferType}
use Rattle.xfer_class.specs.declared.types.XferType.TheVariants.{NotTaken, Taken}
use Rattle.xfer_class.specs.TypeRows.{HasType, BranchRow}
use Rattle.block_check.specs.Straight.{RunsOn, RunsOnAt, Straight}

pub over_none : (image : List ℕ) (a : ℕ) → a % 4 ≡ 0 → Straight image a a
over_none image a aligned = record {
  start_aligned = aligned;
  end_aligned = aligned;
  forward = omega arith;
  each = λ u low high at. absurd (omega (arith, low, high));
}

pub over_one : (image : List ℕ) (a : ℕ) → a % 4 ≡ 0 → RunsOnAt image a → Straight image a (a + 4)
over_one image a aligned runs = record {
  start_aligned = aligned;
  end_aligned = omega (arith, aligned);
  forward = omega arith;
  each = λ u low high at. let same : a ≡ u = omega (arith, aligned, low, high, at) in subst (RunsOnAt image) same runs;
}

pub over_both : (image : List ℕ) (a b c : ℕ) → Straight image a b → Straight image b c → Straight image a c
over_both image a b c first second = record {
  start_aligned = first.start_aligned;
  end_aligned = second.end_aligned;
  forward = omega (arith, first.forward, second.forward);
  each = λ u low high at. elim (cases_lt u b) [
    | inl below ↦ first.each u low below at
    | inr above ↦ second.each u above high at
  ];
}

of_branch : (taken : Bool) (t : XferType) → BranchRow taken t → (t ≡ Taken) ⊎ (t ≡ NotTaken)
of_branch taken Taken row = inl refl
of_branch taken NotTaken row = inr refl
of_branch taken _ row = absurd row

pub ends : (i : Instr) (taken : Bool) (t : XferType) → HasType i taken t → RunsOn i → (t ≡ Taken) ⊎ (t ≡ NotTaken)
ends (Jal rd off) taken t type runs = absurd runs
ends (Jalr rd rs1 off) taken t type runs = absurd runs
ends (Branch condition rs1 rs2 off) taken t type runs = of_branch taken t type
ends Mret taken t type runs = absurd runs
ends Sret taken t type runs = absurd runs
ends _ taken t type runs = absurd type
