use Rattle.std.proofs.Common.{◌≡◌, ◌<◌, length, sym, ap, arith, subst}
use Rattle.std.specs.Prelude.{slice_get, Some}
use Rattle.replay_engine.specs.declared.sampling.SampleContext.{SampleContext}
use Rattle.replay_engine.specs.View.{Plan}
use Rattle.replay_engine.proofs.Items.{got_item}
use Rattle.replay_engine.proofs.Performs.{run_done, run_broke, same_subject}
use Rattle.replay_engine.proofs.performing.run.Goals as goal
use Rattle.replay_engine.specs.Parts.{RunAmong, CutAmong}

pub returns-in-Ok-clause-outcome : goal.returns-in-Ok-clause-outcome
returns-in-Ok-clause-outcome g c =
    let plan = c.args.plan.now in
    let o = c.index-task_plan.result.now in
    let t = c.args.task in
    let h = c.args.hart in
    let few : t < length plan.tasks =
    omega (arith, c.if-task-count.false, c.count.ensures.count, c.requires.ready.size) in
    let within : h < plan.harts =
    omega (
      arith,
      c.if-hart-from.false,
      c.from.ensures,
      ap (λ (p : Plan). p.harts)
          c.plan.view_is,
    ) in
    let ordered : slice_get plan.tasks t ≡ Some o =
    got_item plan.tasks c.plan.inside.tasks.items t o
    (ap (λ (p : Plan). p.tasks) c.plan.view_is) c.index-task_plan.ensures few in
    run_done g.K.Sink.gained c.args.sink.now c.run_on_hart.new.sink plan o c.args.tasks.now
    c.bring.new.self c.run_on_hart.new.tasks c.args.harts.now c.bring.new.harts
    c.run_on_hart.new.harts h t c.args.steps
    few within c.bring.ensures.kept c.bring.ensures.there c.bring.ensures.view
    c.bring.ensures.others ordered
    (subst (λ (s : SampleContext). RunAmong g.K.Sink.gained c.args.sink.now c.run_on_hart.new.sink
    c.bring.new.self c.run_on_hart.new.tasks c.bring.new.harts c.run_on_hart.new.harts s o.irqs
    c.args.steps)
    (sym (same_subject plan h t c.plan.inside.layout o
    (ap (λ (p : Plan). p.layout) c.plan.view_is))) c.in-Ok.ensures.whole)

pub returns-in-Err-clause-outcome : goal.returns-in-Err-clause-outcome
returns-in-Err-clause-outcome g c =
    let plan = c.args.plan.now in
    let o = c.index-task_plan.result.now in
    let t = c.args.task in
    let h = c.args.hart in
    let few : t < length plan.tasks =
    omega (arith, c.if-task-count.false, c.count.ensures.count, c.requires.ready.size) in
    let within : h < plan.harts =
    omega (
      arith,
      c.if-hart-from.false,
      c.from.ensures,
      ap (λ (p : Plan). p.harts)
          c.plan.view_is,
    ) in
    let ordered : slice_get plan.tasks t ≡ Some o =
    got_item plan.tasks c.plan.inside.tasks.items t o
    (ap (λ (p : Plan). p.tasks) c.plan.view_is) c.index-task_plan.ensures few in
    run_broke g.K.Sink.gained c.args.sink.now c.run_on_hart.new.sink plan o c.args.tasks.now
    c.bring.new.self c.run_on_hart.new.tasks c.args.harts.now c.bring.new.harts
    c.run_on_hart.new.harts h t c.args.steps
    few within c.bring.ensures.kept c.bring.ensures.there c.bring.ensures.view
    c.bring.ensures.others ordered
    (subst (λ (s : SampleContext). CutAmong g.K.Sink.gained c.args.sink.now c.run_on_hart.new.sink
    c.bring.new.self c.run_on_hart.new.tasks c.bring.new.harts c.run_on_hart.new.harts s o.irqs
    c.args.steps)
    (sym (same_subject plan h t c.plan.inside.layout o
    (ap (λ (p : Plan). p.layout) c.plan.view_is))) c.in-Err.ensures.part)
