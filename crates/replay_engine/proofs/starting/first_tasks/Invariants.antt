use Rattle.std.proofs.Common.{◌≡◌, ◌++◌, length, take}
use Rattle.std.specs.List.{All}
use Rattle.replay_engine.specs.Engine.{HasWholeArea}
use Rattle.replay_engine.specs.Start.{fresh_tasks}
use Rattle.replay_engine.proofs.starting.first_tasks.Given as goal

abbrev pub invariant-loop-mem : goal.invariant-loop-mem
invariant-loop-mem l = record {
  made : l.list.items ≡ fresh_tasks (take l.i l.lines) l.yielded;
  whole : All HasWholeArea l.list.items;
  count : l.i ≡ length l.yielded;
  split : l.fn.mems ≡ l.yielded ++ l.mem-iterator.rest.items;
}
