use Rattle.std.proofs.Common.{◌≡◌, List, sym, subst, get_or, arith}
use Rattle.std.proofs.Common.{nat_eq, true}
use Rattle.std.proofs.lemmas.List.{get_or_default}
use Rattle.sched_text.specs.declared.schedule.IrqLine.{IrqLine}
use Rattle.replay_engine.specs.Irqs.{CanFollow, AreIrqs}
use Rattle.replay_engine.specs.Start.{interrupt_of, irqs_of}
use Rattle.rv_hart.specs.Task.{Irq}
use Rattle.replay_engine.proofs.StartLaws.{may_push}
use Rattle.replay_engine.proofs.starting.irqs_of.Goals as goal

pub push-requires-clause-irq : goal.push-requires-clause-irq
push-requires-clause-irq c =
    let lines = c.items-line-items.result.now in
    let i = c.loop-line.line-index in
    let t = c.args.task in
    let none : IrqLine = record { task = 0; step = 0; cause = 0 } in
    let x = get_or lines i none in
    let are : AreIrqs (irqs_of t lines) =
    subst (λ (ls : List IrqLine). AreIrqs (irqs_of t ls)) (sym c.items-line-items.ensures)
    c.requires in
    let is : x ≡ get_or lines i x = get_or_default lines i none x c.loop-line-test.true in
    let same : nat_eq x.task t ≡ true = grind (arith, c.if-line-task.true) in
    (may_push t i lines x are c.loop-line-test.true is same).0

pub push-requires-clause-follows : goal.push-requires-clause-follows
push-requires-clause-follows c =
    let lines = c.items-line-items.result.now in
    let i = c.loop-line.line-index in
    let t = c.args.task in
    let none : IrqLine = record { task = 0; step = 0; cause = 0 } in
    let x = get_or lines i none in
    let are : AreIrqs (irqs_of t lines) =
    subst (λ (ls : List IrqLine). AreIrqs (irqs_of t ls)) (sym c.items-line-items.ensures)
    c.requires in
    let is : x ≡ get_or lines i x = get_or_default lines i none x c.loop-line-test.true in
    let same : nat_eq x.task t ≡ true = grind (arith, c.if-line-task.true) in
    subst (λ (xs : List Irq). CanFollow xs (interrupt_of x)) (sym c.loop-line.invariant.made)
    (may_push t i lines x are c.loop-line-test.true is same).1
