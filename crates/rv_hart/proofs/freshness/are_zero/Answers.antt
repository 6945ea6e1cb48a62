use Rattle.ctr_buffer.specs.Entry.{zero_entry}
use Rattle.rv_hart.proofs.Zeros.{one_more}
use Rattle.rv_hart.proofs.freshness.are_zero.Goals as goal

pub loop-i-preserved : goal.loop-i-preserved
loop-i-preserved g c =
    one_more (g.B.CtrStore.means c.args.store.now).slots c.loop-i.i zero_entry c.slot.result
    c.loop-i.invariant c.slot.ensures (c.if-not-is_zero.ensures.yes)
