use Rattle.std.proofs.Common.{[], ◌≡◌, ◌≤◌, ◌-◌, length, false}
use Rattle.ctr_port.specs.InHand.{Same}
use Rattle.sched_text.specs.declared.limits.TheConstants.{WINDOW}
use Rattle.sched_text.specs.Lines.{line_at}
use Rattle.sched_text.specs.InHand.{is_open}
use Rattle.sched_text.proofs.LineLaws.{IsGrown}
use Rattle.sched_text.proofs.lines.read_line.Given as goal

abbrev pub invariant-loop-count : goal.invariant-loop-count
invariant-loop-count g l =
    Same l.fn.window (g.S.Source.left l.fn.source) l.window (g.S.Source.left l.source)
    × (g.S.Source.faults l.fn.source ≤ g.S.Source.faults l.source)
    × (is_open (line_at l.fn.window) ≡ false → (l.window ≡ l.fn.window) × (l.source ≡ l.fn.source))
    × (l.most ≡ 1 → l.fn.window ≡ [] → IsGrown l.window)

abbrev pub decreases-loop-count : goal.decreases-loop-count
decreases-loop-count g l = WINDOW - length l.window
