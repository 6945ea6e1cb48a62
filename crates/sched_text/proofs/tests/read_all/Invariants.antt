use Rattle.std.proofs.Common.{◌≡◌, None, false}
use Rattle.sched_text.proofs.tests.read_all.Given as goal

abbrev pub invariant-loop-task : goal.invariant-loop-task
invariant-loop-task l = (l.reader.refused ≡ None) × (l.reader.ended ≡ false)

abbrev pub invariant-loop : goal.invariant-loop
invariant-loop l = (l.reader.refused ≡ None) × (l.reader.ended ≡ false)
