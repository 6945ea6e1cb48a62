use Rattle.replay_engine.proofs.AtLaws.{standing_harts_are_at, residents_are_lone}
use Rattle.replay_engine.proofs.EngineLaws.{moves_keep_states, presents_are_steps, runs_join}
use Rattle.replay_engine.proofs.EngineLaws.{refusals_agree, states_are_lone, samples_join}
use Rattle.replay_engine.proofs.EngineLaws.{samples_are_own, commands_add_little, counts_loosen}
use Rattle.replay_engine.proofs.EngineLaws.{headers_give_interrupts}
use Rattle.replay_engine.proofs.BreakLaws.{accepted_or_broken}
use Rattle.replay_engine.proofs.ScheduledLaws.{samples_are_lone, harts_are_lone, samples_are_given}
use Rattle.replay_engine.proofs.LineLaws.{plans_say_headers, headers_give_tasks}
use Rattle.replay_engine.proofs.LineLaws.{headers_give_sound_tasks}
use Rattle.replay_engine.proofs.PlacingLaws.{places_are_told, residents_are_told}
use Rattle.replay_engine.proofs.laws.engine_laws.Goals as goal

pub returns-clause-moves : goal.returns-clause-moves
returns-clause-moves c = moves_keep_states

pub returns-clause-steps : goal.returns-clause-steps
returns-clause-steps c = presents_are_steps

pub returns-clause-runs : goal.returns-clause-runs
returns-clause-runs c = runs_join

pub returns-clause-places : goal.returns-clause-places
returns-clause-places c = places_are_told

pub returns-clause-refusals : goal.returns-clause-refusals
returns-clause-refusals c = refusals_agree

pub returns-clause-states : goal.returns-clause-states
returns-clause-states c = states_are_lone

pub returns-clause-samples : goal.returns-clause-samples
returns-clause-samples c = samples_join

pub returns-clause-own : goal.returns-clause-own
returns-clause-own c = samples_are_own

pub returns-clause-counts : goal.returns-clause-counts
returns-clause-counts c = commands_add_little

pub returns-clause-loosen : goal.returns-clause-loosen
returns-clause-loosen c = counts_loosen

pub returns-clause-interrupts : goal.returns-clause-interrupts
returns-clause-interrupts c = headers_give_interrupts

pub returns-clause-harts : goal.returns-clause-harts
returns-clause-harts c = standing_harts_are_at

pub returns-clause-breaks : goal.returns-clause-breaks
returns-clause-breaks c = accepted_or_broken

pub returns-clause-on_harts : goal.returns-clause-on_harts
returns-clause-on_harts c = residents_are_told

pub returns-clause-lone_harts : goal.returns-clause-lone_harts
returns-clause-lone_harts c = harts_are_lone

pub returns-clause-given : goal.returns-clause-given
returns-clause-given c = samples_are_given c.lone_run_laws.ensures.visible

pub returns-clause-residents : goal.returns-clause-residents
returns-clause-residents c = residents_are_lone

pub returns-clause-plans : goal.returns-clause-plans
returns-clause-plans c = plans_say_headers

pub returns-clause-tasks : goal.returns-clause-tasks
returns-clause-tasks c = headers_give_tasks

pub returns-clause-sound : goal.returns-clause-sound
returns-clause-sound c = headers_give_sound_tasks

pub returns-clause-scheduled : goal.returns-clause-scheduled
returns-clause-scheduled c = samples_are_lone
