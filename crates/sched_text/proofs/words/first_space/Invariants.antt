use Rattle.std.proofs.Common.{◌≡◌, ◌<◌, ℕ, slice_index, false}
use Rattle.sched_text.specs.Lines.{is_space}
use Rattle.sched_text.proofs.words.first_space.Given as goal

abbrev pub invariant-loop-at : goal.invariant-loop-at
invariant-loop-at l = (k : ℕ) → k < l.at → is_space (slice_index l.line k) ≡ false
