use Rattle.std.proofs.Common.{◌≡◌, replicate}
use Rattle.rv_hart.specs.Hart.{fresh_hart}
use Rattle.rv_hart.proofs.harts.Harts.new.Given as goal

abbrev pub invariant-loop : goal.invariant-loop
invariant-loop l = l.list.items ≡ replicate l.counter fresh_hart
