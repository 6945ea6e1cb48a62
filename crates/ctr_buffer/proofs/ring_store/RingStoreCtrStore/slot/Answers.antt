use Rattle.ctr_buffer.proofs.Rings.{slot_ring}
use Rattle.ctr_buffer.proofs.ring_store.RingStoreCtrStore.slot.Goals as goal

pub returns : goal.returns
returns c = rw (← c.self.view_is, c.place.ensures.is, c.entries.ensures.is)
    (slot_ring c.self.inside.depth c.self.inside.wrptr c.args.i c.self.inside.ring c.index-self-place.result c.self.invariant (rw (← c.self.view_is) at c.requires))
