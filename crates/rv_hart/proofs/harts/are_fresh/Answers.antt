use Rattle.rv_hart.specs.Hart.{fresh_hart}
use Rattle.rv_hart.proofs.Zeros.{one_more}
use Rattle.rv_hart.proofs.harts.are_fresh.Goals as goal

pub loop-i-preserved : goal.loop-i-preserved
loop-i-preserved c =
    one_more c.args.list.now c.loop-i.i fresh_hart c.hart_at.result.now c.loop-i.invariant c.hart_at.ensures c.if-not-is_fresh.ensures.yes
