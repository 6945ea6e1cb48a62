use Rattle.std.proofs.Common.{◌≡◌, ℕ, ◌+◌, List, [], ◌∷◌, ◌++◌, length, sym, ap, ◌∙◌, take}
use Rattle.std.proofs.Common.{get_or, arith}
use Rattle.std.proofs.lemmas.List.{take_more, length-take-le}
use Rattle.sched_text.specs.declared.schedule.TaskLine.{TaskLine}
use Rattle.rv_hart.specs.Task.{Irq}
use Rattle.replay_engine.specs.declared.plan.TaskPlan.{TaskPlan}
use Rattle.replay_engine.specs.Start.{irqs_of, task_plans_from}
use Rattle.replay_engine.proofs.StartLaws.{task_plans_more}
use Rattle.replay_engine.proofs.starting.task_plans_of.Goals as goal

pub loop-line-preserved : goal.loop-line-preserved
loop-line-preserved c =
    let inv = c.loop-line.invariant in
    let lines = c.items-line-items.result.now in
    let i = c.loop-line.line-index in
    let irqs = c.args.irqs.now in
    let none : TaskLine = record {
      image = 0;
      mem = 0;
      depth = 0;
      mctrctl = 0;
      vsctrctl =
          0;
      period = 0;
    } in
    let x = get_or lines i none in
    let number : c.loop-line.t ≡ 0 + length (take i lines) =
    omega (arith, inv.count, length-take-le i lines (omega (arith, c.loop-line-test.true))) in
    record {
      made = c.in_ok-push.ensures.items
          ∙ ap (λ (os : List TaskPlan). os ++ record {
            memory = x.mem;
            period = x.period;
            irqs =
                c.in_ok-irqs_of.field-0;
          } ∷ []) inv.made
          ∙ ap (λ (is : List Irq). task_plans_from 0 (take i lines) irqs ++ record {
            memory =
                x.mem;
            period = x.period;
            irqs = is;
          } ∷ []) (c.in_ok-irqs_of.ensures
          ∙ ap (λ (t : ℕ). irqs_of t irqs) number)
          ∙ sym (task_plans_more 0 (take i lines) x irqs)
          ∙ ap (λ (ls : List TaskLine). task_plans_from 0 ls irqs)
          (sym (take_more lines i none c.loop-line-test.true));
      count = omega (arith, inv.count);
    }
