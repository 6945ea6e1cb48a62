use Rattle.std.proofs.lemmas.Nat.{and_assoc}
use Rattle.ctr_csrs.specs.ControlFigure.{m_mask, s_mask}
use Rattle.ctr_csrs.proofs.KeptBits.{s_keeps}
use Rattle.ctr_csrs.proofs.control.legal_vs.Goals as goal

pub invariant_of-result : goal.invariant_of-result
invariant_of-result c = and_assoc m_mask c.args.value s_mask

pub returns-clause-bits : goal.returns-clause-bits
returns-clause-bits c = s_keeps c.args.value

pub returns-clause-within : goal.returns-clause-within
returns-clause-within c = and_assoc s_mask c.args.value s_mask
