use Rattle.std.proofs.Common.{◌≡◌, ◌+◌, ◌-◌, drop, length}
use Rattle.replay_engine.specs.Irqs.{place_of}
use Rattle.replay_engine.proofs.irqs.Irqs.place.Given as goal

abbrev pub invariant-loop-at : goal.invariant-loop-at
invariant-loop-at l = record {
  counted : place_of l.self l.step ≡ l.at + place_of (drop l.at l.self) l.step;
}

abbrev pub decreases-loop-at : goal.decreases-loop-at
decreases-loop-at l = length l.self - l.at
