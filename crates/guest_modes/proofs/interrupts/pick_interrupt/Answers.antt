use Rattle.guest_modes.proofs.PickLemmas.{answer_is_first, answer_is_none, answer_is_cause, answer_is_between}
use Rattle.guest_modes.proofs.interrupts.pick_interrupt.Goals as goal

pub returns-clause-first : goal.returns-clause-first
returns-clause-first c = answer_is_first c.args.p.now c.args.mode c.first_of_all.result c.first_of_all.ensures

pub returns-clause-none : goal.returns-clause-none
returns-clause-none c = answer_is_none c.args.p.now c.args.mode c.first_of_all.result c.first_of_all.ensures

pub returns-clause-cause : goal.returns-clause-cause
returns-clause-cause c = answer_is_cause c.args.p.now c.args.mode c.first_of_all.result c.first_of_all.ensures

pub returns-clause-between : goal.returns-clause-between
returns-clause-between c = answer_is_between c.args.p.now c.args.mode c.first_of_all.result c.first_of_all.ensures
