use Rattle.replay_engine.proofs.IrqLaws.{irqs_more}
use Rattle.replay_engine.proofs.irqs.Irqs.push.Goals as goal

pub invariant_of-self-2 : goal.invariant_of-self-2
invariant_of-self-2 c =
    rw c.in_ok-push.ensures.items (
    irqs_more c.self.inside.list.items c.args.irq c.self.invariant c.requires.irq
    (rw c.self.view_is c.requires.follows)
    )
