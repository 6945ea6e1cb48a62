use Rattle.std.proofs.Common.{◌+◌, ◌*◌, ◌^◌, sym, ◌∙◌, arith}
use Rattle.std.proofs.lemmas.List.{length-set}
use Rattle.std.proofs.lemmas.List.Elements.{All-set}
use Rattle.std.specs.Prelude.{None}
use Rattle.ctr_csrs.specs.Depths.{entries_of}
use Rattle.rv_hart.specs.Hart.{HartState}
use Rattle.task_switch.specs.SaveArea.{area_of}
use Rattle.task_switch.specs.WhilePassing.{with_last_select}
use Rattle.replay_engine.specs.Engine.{HasWholeArea}
use Rattle.replay_engine.specs.Tasks.{TaskState}
use Rattle.replay_engine.proofs.Items.{got_item, some_of}
use Rattle.replay_engine.proofs.Lifts.{room_at, lift_task, lift_hart}
use Rattle.replay_engine.proofs.tasks.Tasks.save_off.Goals as goal

pub take_off-requires : goal.take_off-requires
take_off-requires c = room_at (2 ^ 62)
    c.args.self.now c.args.harts.now c.args.h c.hart_mut.result.now c.requires.room
    c.hart_mut.ensures.hart

pub returns-clause-task : goal.returns-clause-task
returns-clause-task c = λ x y at got.
    let there =
    got_item c.args.self.now c.self.inside.list.items c.args.t c.index_mut.result.now
    c.self.view_is c.index_mut.ensures.value c.requires.task in
    lift_task (λ (a : TaskState) (b : HartState). record a {
      core = b.core;
      area =
          area_of b.unit;
      place = None;
    }) c.self.inside.list.items c.args.self.now c.args.t
    c.index_mut.result.now x c.take_off.new.task c.hart_mut.result.now y c.self.view_is
    c.take_off.ensures.task
    (some_of c.index_mut.result.now x (sym there ∙ at))
    (some_of c.hart_mut.result.now y (sym c.hart_mut.ensures.hart ∙ got))

pub returns-clause-hart : goal.returns-clause-hart
returns-clause-hart c = λ x y at got.
    let there =
    got_item c.args.self.now c.self.inside.list.items c.args.t c.index_mut.result.now
    c.self.view_is c.index_mut.ensures.value c.requires.task in
    lift_hart (λ (a : TaskState) (b : HartState). record b {
      core = a.core;
      unit =
          with_last_select b.unit;
      accesses =
          b.accesses + (5 + 4 * entries_of b.unit.stack.depth);
      resident = None;
    })
    c.args.harts.now c.args.h
    c.index_mut.result.now x c.hart_mut.result.now y c.take_off.new.hart c.take_off.ensures.hart
    (some_of c.index_mut.result.now x (sym there ∙ at))
    (some_of c.hart_mut.result.now y (sym c.hart_mut.ensures.hart ∙ got))

pub invariant_of-self : goal.invariant_of-self
invariant_of-self c =
    let items = c.self.inside.list.items in (
      omega (arith, length-set items c.args.t c.take_off.new.task, c.self.invariant.0),
      All-set HasWholeArea items c.args.t c.take_off.new.task c.take_off.ensures.whole c.self.invariant.1,
    )
