use Rattle.std.proofs.Common.{◌≡◌, None, false}
use Rattle.engine_tests.proofs.engine.commands.Given as goal

abbrev pub invariant-loop : goal.invariant-loop
invariant-loop g l = (l.reader.refused ≡ None) × (l.reader.ended ≡ false)
