use Rattle.std.proofs.Common.{◌≡◌, take}
use Rattle.replay_engine.specs.Start.{task_plans_from}
use Rattle.replay_engine.proofs.starting.task_plans_of.Given as goal

abbrev pub invariant-loop-line : goal.invariant-loop-line
invariant-loop-line l = record {
  made : l.list.items ≡ task_plans_from 0 (take l.line-index l.line-items) l.irqs;
  count : l.t ≡ l.line-index;
}
