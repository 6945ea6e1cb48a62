use Rattle.std.proofs.Common.{◌≡◌, ◌≤◌, ◌<◌, ◌-◌, [], length}
use Rattle.ctr_port.specs.InHand.{text_of, Of}
use Rattle.sched_text.specs.declared.limits.TheConstants.{WINDOW}
use Rattle.sched_text.proofs.ImageLaws.{Joins}
use Rattle.sched_text.proofs.images.read_image.Given as goal

abbrev pub invariant-loop-window : goal.invariant-loop-window
invariant-loop-window g l =
    Of (text_of l.fn.window (g.S.Source.left l.fn.source)) (text_of l.window (g.S.Source.left l.source)) (Joins l.image)
    × (length l.image ≤ l.wanted)
    × (length l.image < l.wanted → l.window ≡ [])
    × (length l.window ≤ WINDOW)
    × (g.S.Source.faults l.fn.source ≤ g.S.Source.faults l.source)
    × (l.wanted ≤ length l.fn.window → (length l.image ≡ l.wanted) × (l.source ≡ l.fn.source))
    × (length l.fn.window ≤ l.wanted → l.window ≡ [])

abbrev pub decreases-loop-window : goal.decreases-loop-window
decreases-loop-window g l = l.wanted - length l.image
