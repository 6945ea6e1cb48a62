use Rattle.std.proofs.Common.{map, ap, ◌∙◌, get_or}
use Rattle.std.proofs.lemmas.List.{take_more}
use Rattle.sched_text.specs.declared.schedule.TaskLine.{TaskLine}
use Rattle.replay_engine.specs.Start.{size_of}
use Rattle.engine_tests.proofs.PlayedLemmas.{one_memory_more}
use Rattle.engine_tests.proofs.engine.memories.Goals as goal

pub loop-task-preserved : goal.loop-task-preserved
loop-task-preserved g c =
    let lines = c.items-task-items.result.now in
    let i = c.loop-task.task-index in
    let none : TaskLine = record { image = 0; mem = 0; depth = 0; mctrctl = 0; vsctrctl = 0; period = 0 } in
    ap (map size_of) c.in_ok-push.ensures.ok
    ∙ one_memory_more c.loop-task.mems c.in_ok-memory.field-0 lines i (get_or lines i none) c.loop-task.invariant
    (take_more lines i none c.loop-task-test.true) c.in_ok-memory.ensures
