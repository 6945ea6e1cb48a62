use Rattle.std.proofs.Common.{◌≤◌, length}
use Rattle.sched_text.proofs.LineLaws.{Scanned}
use Rattle.sched_text.proofs.lines.line_in.Given as goal

abbrev pub invariant-loop-at : goal.invariant-loop-at
invariant-loop-at l = (l.at ≤ length l.hand) × Scanned l.hand l.at
