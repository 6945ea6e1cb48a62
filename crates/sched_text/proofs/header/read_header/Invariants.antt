use Rattle.std.proofs.Common.{◌≤◌, ◌-◌, length}
use Rattle.ctr_port.specs.InHand.{text_of, Of}
use Rattle.sched_text.specs.declared.limits.TheConstants.{WINDOW, MAX_HEADER_LINES}
use Rattle.sched_text.specs.Progress.{lines_of, Sound}
use Rattle.sched_text.proofs.HeaderLaws.{Came}
use Rattle.sched_text.proofs.header.read_header.Given as goal

abbrev pub invariant-loop-line : goal.invariant-loop-line
invariant-loop-line g l =
    Of (text_of l.fn.window (g.S.Source.left l.fn.source)) (text_of l.window (g.S.Source.left l.source)) (Came l.line l.progress)
    × (l.line ≤ lines_of l.progress)
    × Sound l.progress
    × (length l.progress.irqs ≤ 65537)
    × (length l.window ≤ WINDOW)
    × (g.S.Source.faults l.fn.source ≤ g.S.Source.faults l.source)

abbrev pub decreases-loop-line : goal.decreases-loop-line
decreases-loop-line g l = MAX_HEADER_LINES - lines_of l.progress
