use Rattle.ctr_buffer.proofs.Rings.{pop_ring}
use Rattle.ctr_buffer.proofs.ring_store.RingStoreCtrStore.pop.Goals as goal

pub returns : goal.returns
returns c = rw (← c.self.view_is, c.unlinked.ensures, c.place-first.ensures.is, c.entries.ensures.is)
    (pop_ring c.self.inside.depth c.self.inside.wrptr c.self.inside.ring c.index-self-first.result c.self.invariant)
