use Rattle.std.proofs.Common.{arith}
use Rattle.ctr_buffer.proofs.Moves.{turn_stack}
use Rattle.ctr_buffer.proofs.list_store.ListStoreCtrStore.set_wrptr.Goals as goal

pub returns : goal.returns
returns c = rw (← c.self.view_is, c.from-size.ensures, c.entries.ensures.is) (turn_stack c.self.inside.depth c.self.inside.wrptr c.args.w c.self.inside.slots c.turn.new.slots
    (omega (arith, c.self.invariant.1, c.entries.ensures.is, c.entries.ensures.most))
    (rw (← c.self.view_is) at c.requires)
    (rw (c.from-size.ensures, c.entries.ensures.is, c.from.ensures, c.from-2.ensures) at c.turn.ensures))
