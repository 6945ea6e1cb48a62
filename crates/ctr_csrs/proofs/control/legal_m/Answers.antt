use Rattle.std.proofs.lemmas.Nat.{and_assoc}
use Rattle.ctr_csrs.specs.ControlFigure.{m_mask}
use Rattle.ctr_csrs.proofs.KeptBits.{m_keeps}
use Rattle.ctr_csrs.proofs.control.legal_m.Goals as goal

pub invariant_of-result : goal.invariant_of-result
invariant_of-result c = and_assoc m_mask c.args.value m_mask

pub returns-clause-bits : goal.returns-clause-bits
returns-clause-bits c = m_keeps c.args.value
