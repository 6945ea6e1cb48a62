-- Which commands may be performed after others, told from the commands alone.
use Rattle.std.specs.Prelude.{if◌then◌else◌, nat_lt, List}
use Rattle.std.specs.Prelude.{length, Option, Some, None}
use Rattle.sched_text.specs.declared.schedule.Command.{Command}
use Rattle.sched_text.specs.declared.schedule.Command.TheVariants.{Run, Sample as Sampled, Evict}
use Rattle.sched_text.specs.declared.schedule.Command.TheVariants.{End}
use Rattle.replay_engine.specs.declared.fault.PerformFault.{PerformFault}
use Rattle.replay_engine.specs.declared.fault.PerformFault.TheVariants.{NoTask, NoHart, NotResident}
use Rattle.replay_engine.specs.declared.fault.PerformFault.TheVariants.{EmptyHart}
use Rattle.replay_engine.specs.View.{Plan}
use Rattle.replay_engine.specs.Outcome.{no_place}
use Rattle.replay_engine.specs.Stands.{place_after, resident_after}

abbrev pub command_refusal : Plan → List Command → Command → Option PerformFault
command_refusal plan cs (Run h t n) =
    if nat_lt t (length plan.tasks) then (if nat_lt h plan.harts then None else Some NoHart)
    else Some NoTask
command_refusal plan cs (Sampled t) =
    if nat_lt t (length plan.tasks) then no_place (Some (place_after cs t))
    NotResident else Some NoTask
command_refusal plan cs (Evict h) =
    if nat_lt h plan.harts then no_place (Some (resident_after cs h)) EmptyHart else Some NoHart
command_refusal plan cs End = None
