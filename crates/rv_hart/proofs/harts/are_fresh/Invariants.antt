use Rattle.std.proofs.Common.{◌≡◌, replicate, take}
use Rattle.rv_hart.specs.Hart.{fresh_hart}
use Rattle.rv_hart.proofs.harts.are_fresh.Given as goal

abbrev pub invariant-loop-i : goal.invariant-loop-i
invariant-loop-i l = take l.i l.list ≡ replicate l.i fresh_hart
