-- Which answers are faults of the source.
use Rattle.std.specs.Prelude.{Bool, true, false}
use Rattle.sched_text.specs.declared.faults.ScheduleFault.{ScheduleFault}
use Rattle.sched_text.specs.declared.faults.ScheduleFault.TheVariants as schedule
use Rattle.sched_text.specs.declared.faults.CommandFault.{CommandFault}
use Rattle.sched_text.specs.declared.faults.CommandFault.TheVariants as command
use Rattle.sched_text.specs.declared.lines.Stop.{Stop}
use Rattle.sched_text.specs.declared.lines.Stop.TheVariants as stop

abbrev pub is_read : ScheduleFault → Bool
is_read schedule.ReadFault = true
is_read _ = false

abbrev pub is_command_read : CommandFault → Bool
is_command_read command.ReadFault = true
is_command_read _ = false

abbrev pub is_failed : Stop → Bool
is_failed stop.Failed = true
is_failed _ = false
