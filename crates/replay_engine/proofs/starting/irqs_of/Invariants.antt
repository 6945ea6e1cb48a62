use Rattle.std.proofs.Common.{◌≡◌, take}
use Rattle.replay_engine.specs.Start.{irqs_of}
use Rattle.replay_engine.proofs.starting.irqs_of.Given as goal

abbrev pub invariant-loop-line : goal.invariant-loop-line
invariant-loop-line l = record {
  made : l.irqs ≡ irqs_of l.task (take l.line-index l.line-items);
}
