use Rattle.std.proofs.Common.{◌≡◌, map, take}
use Rattle.replay_engine.specs.Start.{size_of, mem_of}
use Rattle.engine_tests.proofs.engine.memories.Given as goal

abbrev pub invariant-loop-task : goal.invariant-loop-task
invariant-loop-task g l = map size_of l.mems ≡ map mem_of (take l.task-index l.task-items)
