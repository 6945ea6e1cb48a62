use Rattle.std.proofs.Common.{◌+◌, ◌*◌, ◌^◌, sym, ◌∙◌, arith}
use Rattle.std.proofs.lemmas.List.{length-set}
use Rattle.std.proofs.lemmas.List.Elements.{All-set}
use Rattle.std.specs.Prelude.{Some}
use Rattle.ctr_csrs.specs.Depths.{entries_of}
use Rattle.rv_hart.specs.Hart.{HartState}
use Rattle.task_switch.specs.SaveArea.{unit_in}
use Rattle.replay_engine.specs.Engine.{HasWholeArea}
use Rattle.replay_engine.specs.Tasks.{TaskState}
use Rattle.replay_engine.proofs.Items.{got_item, some_of}
use Rattle.replay_engine.proofs.Lifts.{room_at, lift_task, lift_hart}
use Rattle.replay_engine.proofs.tasks.Tasks.restore_on.Goals as goal

pub put_on-requires : goal.put_on-requires
put_on-requires c = room_at (2 ^ 62)
    c.args.self.now c.args.harts.now c.args.h c.hart_mut.result.now c.requires.room
    c.hart_mut.ensures.hart

pub returns-clause-task : goal.returns-clause-task
returns-clause-task c = λ x y at got.
    let there =
    got_item c.args.self.now c.self.inside.list.items c.args.t c.index_mut.result.now
    c.self.view_is c.index_mut.ensures.value c.requires.task in
    lift_task (λ (a : TaskState) (b : HartState). record a { core = b.core; place = Some c.args.h })
    c.self.inside.list.items c.args.self.now c.args.t
    c.index_mut.result.now x c.put_on.new.task c.hart_mut.result.now y c.self.view_is
    c.put_on.ensures.task
    (some_of c.index_mut.result.now x (sym there ∙ at))
    (some_of c.hart_mut.result.now y (sym c.hart_mut.ensures.hart ∙ got))

pub returns-clause-hart : goal.returns-clause-hart
returns-clause-hart c = λ x y at got.
    let there =
    got_item c.args.self.now c.self.inside.list.items c.args.t c.index_mut.result.now
    c.self.view_is c.index_mut.ensures.value c.requires.task in
    lift_hart (λ (a : TaskState) (b : HartState). record b {
      core = a.core;
      unit =
          unit_in a.area;
      accesses = b.accesses + (6 + 4 * entries_of a.area.depth);
      resident =
          Some c.args.t;
    }) c.args.harts.now c.args.h
    c.index_mut.result.now x c.hart_mut.result.now y c.put_on.new.hart c.put_on.ensures.hart
    (some_of c.index_mut.result.now x (sym there ∙ at))
    (some_of c.hart_mut.result.now y (sym c.hart_mut.ensures.hart ∙ got))

pub invariant_of-self : goal.invariant_of-self
invariant_of-self c =
    let items = c.self.inside.list.items in (
      omega (arith, length-set items c.args.t c.put_on.new.task, c.self.invariant.0),
      All-set HasWholeArea items c.args.t c.put_on.new.task c.put_on.ensures.whole c.self.invariant.1,
    )
