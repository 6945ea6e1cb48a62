use Rattle.std.proofs.Common.{arith}
use Rattle.ctr_csrs.specs.RegisterLaws.{least_entries}
use Rattle.ctr_buffer.proofs.Rings.{zeros_ring}
use Rattle.ctr_buffer.proofs.ring_store.RingStoreCtrStore.fresh.Goals as goal

pub returns : goal.returns
returns c = rw c.zeros.ensures (zeros_ring c.args.depth 0 (omega (arith, least_entries c.args.depth)))
