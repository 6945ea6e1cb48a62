use Rattle.std.proofs.Common.{◌≡◌, replicate, take}
use Rattle.rv_hart.proofs.freshness.are_clear.Given as goal

abbrev pub invariant-loop-i : goal.invariant-loop-i
invariant-loop-i l = take l.i l.x ≡ replicate l.i 0
