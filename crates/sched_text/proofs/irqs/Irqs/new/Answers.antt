use Rattle.std.proofs.Common.{subst, sym, replicate}
use Rattle.sched_text.specs.Marks.{no_mark, Marked}
use Rattle.sched_text.proofs.MarkLaws.{marked_none}
use Rattle.sched_text.proofs.irqs.Irqs.new.Goals as goal

pub invariant_of-result : goal.invariant_of-result
invariant_of-result c = subst (Marked (replicate 64 no_mark)) (sym c.new.ensures) marked_none
