use Rattle.std.proofs.Common.{◌∙◌, ap}
use Rattle.sched_text.specs.Marks.{mark_refusal}
use Rattle.sched_text.specs.declared.irqs.Mark.{Mark}
use Rattle.sched_text.proofs.MarkLaws.{mark_refuses}
use Rattle.sched_text.proofs.irqs.Irqs.refusal.Goals as goal

pub returns-clause-refusal : goal.returns-clause-refusal
returns-clause-refusal c =
    rw (← c.self.view_is)
    (c.mark_refusal.ensures ∙ ap (λ (m : Mark). mark_refusal m c.args.irq) (c.self.invariant.each c.args.irq.task c.requires) ∙ mark_refuses c.self.inside.list c.args.irq)
