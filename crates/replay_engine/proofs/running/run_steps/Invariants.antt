use Rattle.std.proofs.Common.{◌≡◌, ◌≤◌}
use Rattle.replay_engine.specs.Irqs.{place_of, step_at}
use Rattle.replay_engine.specs.Tasks.{state_on}
use Rattle.replay_engine.specs.Runs.{samples_of_steps, spellings}
use Rattle.replay_engine.proofs.running.run_steps.Given as goal
use Rattle.replay_engine.specs.Parts.{StepsMade, next_due}

abbrev pub invariant-loop : goal.invariant-loop
invariant-loop g l = record {
  due : l.due ≡ next_due l.context.period l.task.steps;
  cursor : l.place ≡ place_of l.irqs l.task.steps;
  next : l.next ≡ step_at l.irqs l.place;
  stepped : StepsMade l.fn.hart l.hart l.fn.task l.task l.context l.irqs l.counter;
  written : g.K.Sink.gained l.fn.sink
      (spellings l.context.layout (samples_of_steps l.context l.irqs l.counter
      (state_on l.fn.hart l.fn.task))) l.sink;
  later : g.K.Sink.faults l.fn.sink ≤ g.K.Sink.faults l.sink;
}
