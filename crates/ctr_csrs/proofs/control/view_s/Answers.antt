use Rattle.ctr_csrs.proofs.KeptBits.{s_keeps}
use Rattle.ctr_csrs.proofs.control.view_s.Goals as goal

pub returns-clause-bits : goal.returns-clause-bits
returns-clause-bits c = rw (← c.m.view_is) (s_keeps c.m.inside.word)
