use Rattle.indirect_regs.proofs.LawLemmas.{monitor_reaches_as_m, events_make_the_buffer}
use Rattle.indirect_regs.proofs.FrozenLemmas.{frozen_changes_by_status}
use Rattle.indirect_regs.proofs.laws.register_laws.Goals as goal

pub returns-clause-monitor_reaches_as_m : goal.returns-clause-monitor_reaches_as_m
returns-clause-monitor_reaches_as_m c = monitor_reaches_as_m

pub returns-clause-frozen_changes_by_status : goal.returns-clause-frozen_changes_by_status
returns-clause-frozen_changes_by_status c = frozen_changes_by_status

pub returns-clause-events_make_the_buffer : goal.returns-clause-events_make_the_buffer
returns-clause-events_make_the_buffer c = events_make_the_buffer
