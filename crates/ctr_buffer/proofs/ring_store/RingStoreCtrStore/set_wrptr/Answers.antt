use Rattle.ctr_buffer.proofs.Rings.{turn_ring}
use Rattle.ctr_buffer.proofs.ring_store.RingStoreCtrStore.set_wrptr.Goals as goal

pub returns : goal.returns
returns c = rw (← c.self.view_is)
    (turn_ring c.self.inside.depth c.self.inside.wrptr c.args.w c.self.inside.ring c.self.invariant (rw (← c.self.view_is) at c.requires))
