use Rattle.ctr_csrs.proofs.TrapLemmas.{pairs_rise, needs_modes_between}
use Rattle.ctr_csrs.proofs.laws.trap_laws.Goals as goal

pub returns-clause-pairs_rise : goal.returns-clause-pairs_rise
returns-clause-pairs_rise c = pairs_rise

pub returns-clause-needs_modes_between : goal.returns-clause-needs_modes_between
returns-clause-needs_modes_between c = needs_modes_between
