use Rattle.ctr_buffer.proofs.Rings.{push_ring}
use Rattle.ctr_buffer.proofs.ring_store.RingStoreCtrStore.push.Goals as goal

pub returns : goal.returns
returns c = rw (c.become_slot.ensures, ← c.self.view_is, c.from.ensures, c.stepped-self-inside.ensures, c.entries.ensures.is)
    (push_ring c.self.inside.depth c.self.inside.wrptr c.self.inside.ring c.args.s c.self.invariant)
