use Rattle.std.proofs.Common.{arith}
use Rattle.ctr_buffer.proofs.Rings.{set_ring}
use Rattle.ctr_buffer.proofs.ring_store.RingStoreCtrStore.swap.Goals as goal

pub returns : goal.returns
returns c = rw (← c.self.view_is, c.place.ensures.is, c.entries.ensures.is)
    (set_ring c.self.inside.depth c.self.inside.wrptr 0 c.self.inside.ring c.args.s c.self.invariant (omega (arith, c.self.invariant.within)))
