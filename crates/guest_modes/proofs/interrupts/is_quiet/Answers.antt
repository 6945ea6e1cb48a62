use Rattle.guest_modes.proofs.QuietLemmas.{none_where_quiet}
use Rattle.guest_modes.proofs.interrupts.is_quiet.Goals as goal

pub returns-clause-none : goal.returns-clause-none
returns-clause-none c = none_where_quiet c.args.p.now c.get.result c.get-2.result c.get.ensures.value c.get-2.ensures.value
