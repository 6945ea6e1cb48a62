use Rattle.rv_hart.proofs.Zeros.{other_one}
use Rattle.rv_hart.proofs.freshness.are_clear.Goals as goal

pub returns-then-not-is_null-clause-no : goal.returns-then-not-is_null-clause-no
returns-then-not-is_null-clause-no c =
    other_one c.args.x.now c.loop-i.i 32 0 c.item.result c.item.ensures c.loop-i-test.true c.if-not-is_null.ensures.no
