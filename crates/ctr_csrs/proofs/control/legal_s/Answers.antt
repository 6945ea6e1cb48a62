use Rattle.std.proofs.Common.{refl}
use Rattle.ctr_bits.specs.MaskBits.{merged_stays_within}
use Rattle.ctr_csrs.specs.ControlFigure.{m_mask, s_mask}
use Rattle.ctr_csrs.proofs.KeptBits.{s_merges}
use Rattle.ctr_csrs.proofs.control.legal_s.Goals as goal

pub invariant_of-result : goal.invariant_of-result
invariant_of-result c = merged_stays_within s_mask m_mask c.old.inside.word c.args.value refl c.old.invariant

pub returns-clause-bits : goal.returns-clause-bits
returns-clause-bits c = rw (← c.old.view_is) (s_merges c.old.inside.word c.args.value)
