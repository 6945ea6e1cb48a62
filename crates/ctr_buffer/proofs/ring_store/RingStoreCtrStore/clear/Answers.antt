use Rattle.ctr_buffer.proofs.Rings.{zeros_ring, zeros_are}
use Rattle.ctr_buffer.proofs.ring_store.RingStoreCtrStore.clear.Goals as goal

pub invariant_of-self : goal.invariant_of-self
invariant_of-self c = rw c.zeros.ensures (zeros_are c.self.inside.depth c.self.inside.wrptr c.self.invariant.within)

pub returns : goal.returns
returns c = rw (← c.self.view_is, c.zeros.ensures) (zeros_ring c.self.inside.depth c.self.inside.wrptr c.self.invariant.within)
