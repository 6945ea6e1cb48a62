use Rattle.std.proofs.Math.Seq.{take-set-lt}
use Rattle.ctr_csrs.specs.Depths.{entries_of}
use Rattle.ctr_buffer.proofs.Moves.{same_slots}
use Rattle.ctr_buffer.proofs.list_store.ListStoreCtrStore.set_slot.Goals as goal

pub returns : goal.returns
returns c = rw (← c.self.view_is, c.from.ensures) (same_slots c.self.inside.depth c.self.inside.wrptr _ _
    (take-set-lt (entries_of c.self.inside.depth) c.self.inside.slots c.args.i c.args.s (rw (← c.self.view_is) at c.requires)))
