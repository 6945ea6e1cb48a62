use Rattle.std.proofs.Common.{refl, ◌+◌, ◌<◌, ◌^◌, List, length, sym, ap, subst, ◌∙◌, arith}
use Rattle.std.specs.Prelude.{slice_set}
use Rattle.std.proofs.lemmas.List.{length-set}
use Rattle.std.proofs.lemmas.List.Elements.{All-set, All-get_or}
use Rattle.task_switch.specs.SaveArea.{IsWhole}
use Rattle.replay_engine.specs.Engine.{HasWholeArea}
use Rattle.replay_engine.specs.Tasks.{TaskState}
use Rattle.replay_engine.proofs.Items.{got_item, on_ok, on_err}
use Rattle.replay_engine.proofs.Lifts.{room_at, steps_room, count_at}
use Rattle.replay_engine.proofs.Loops.{area_stays}
use Rattle.replay_engine.proofs.performing.run_on_hart.Goals as goal

pub run_steps-requires-clause-accesses : goal.run_steps-requires-clause-accesses
run_steps-requires-clause-accesses g c =
    omega (
      arith,
      room_at (2 ^ 61 + 3090)
          c.args.tasks.now c.args.harts.now c.args.context.now.hart c.hart_mut.result.now
          c.requires.room c.hart_mut.ensures.hart,
    )

pub run_steps-requires-clause-hart_room : goal.run_steps-requires-clause-hart_room
run_steps-requires-clause-hart_room g c =
    steps_room (2 ^ 61 + 3090)
    c.args.tasks.now c.args.harts.now c.args.context.now.hart c.hart_mut.result.now c.requires.room
    c.hart_mut.ensures.hart

pub run_steps-requires-clause-task_room : goal.run_steps-requires-clause-task_room
run_steps-requires-clause-task_room g c =
    count_at (2 ^ 61 + 3090)
    c.args.tasks.now c.args.harts.now c.args.context.now.task c.index_mut.result.now
    c.requires.room
    (got_item c.args.tasks.now c.tasks.inside.list.items c.args.context.now.task
    c.index_mut.result.now c.tasks.view_is c.index_mut.ensures.value c.requires.task)

pub returns-clause-whole : goal.returns-clause-whole
returns-clause-whole g c = on_ok _ _ c.run_steps.result (λ made. record {
  x = c.index_mut.result.now;
  x' = c.run_steps.new.task;
  y = c.hart_mut.result.now;
  y' = c.run_steps.new.hart;
  task =
      got_item c.args.tasks.now c.tasks.inside.list.items c.args.context.now.task
      c.index_mut.result.now c.tasks.view_is c.index_mut.ensures.value c.requires.task;
  hart = c.hart_mut.ensures.hart;
  tasks = ap (λ (zs : List TaskState). slice_set zs c.args.context.now.task c.run_steps.new.task)
      c.tasks.view_is;
  harts = refl;
  made = made;
}) c.run_steps.ensures.whole

pub returns-clause-part : goal.returns-clause-part
returns-clause-part g c = on_err _ _ c.run_steps.result (λ made. record {
  x = c.index_mut.result.now;
  x' = c.run_steps.new.task;
  y = c.hart_mut.result.now;
  y' = c.run_steps.new.hart;
  task =
      got_item c.args.tasks.now c.tasks.inside.list.items c.args.context.now.task
      c.index_mut.result.now c.tasks.view_is c.index_mut.ensures.value c.requires.task;
  hart = c.hart_mut.ensures.hart;
  tasks = ap (λ (zs : List TaskState). slice_set zs c.args.context.now.task c.run_steps.new.task)
      c.tasks.view_is;
  harts = refl;
  made = made;
}) c.run_steps.ensures.part

pub returns-clause-size : goal.returns-clause-size
returns-clause-size g c =
    length-set c.tasks.inside.list.items c.args.context.now.task c.run_steps.new.task
    ∙ ap length c.tasks.view_is

pub invariant_of-tasks : goal.invariant_of-tasks
invariant_of-tasks g c =
    let items = c.tasks.inside.list.items in
    let t = c.args.context.now.task in
    let x = c.index_mut.result.now in
    let x' = c.run_steps.new.task in
    let within : t < length items =
    omega (arith, c.requires.task, ap (λ (ts : List TaskState). length ts) c.tasks.view_is) in
    let old : HasWholeArea x =
    subst HasWholeArea (sym c.index_mut.ensures.value)
    (All-get_or HasWholeArea items t x within c.tasks.invariant.1) in
    let kept = area_stays g.K.Sink.gained c.args.sink.now c.run_steps.new.sink
    c.hart_mut.result.now c.run_steps.new.hart x x' c.args.context.now c.args.task_plan.now.irqs
    c.args.steps c.run_steps.result c.run_steps.ensures.whole c.run_steps.ensures.part in (
      omega (arith, length-set items t x', c.tasks.invariant.0),
      All-set HasWholeArea items t x' (subst IsWhole (sym kept) old) c.tasks.invariant.1,
    )
