use Rattle.std.proofs.Common.{◌≡◌, None, false}
use Rattle.engine_tests.proofs.engine.images.Given as goal

abbrev pub invariant-loop-task : goal.invariant-loop-task
invariant-loop-task g l = (l.reader.refused ≡ None) × (l.reader.ended ≡ false)
