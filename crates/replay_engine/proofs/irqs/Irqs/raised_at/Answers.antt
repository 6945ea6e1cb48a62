use Rattle.std.proofs.Common.{◌≡◌, ◌∙◌, ap, arith}
use Rattle.replay_engine.specs.Irqs.{Rise, place_of, step_at}
use Rattle.replay_engine.proofs.IrqLaws.{nothing_raised, same_place}
use Rattle.replay_engine.proofs.irqs.Irqs.raised_at.Goals as goal

pub returns-then-step-next-clause-bits : goal.returns-then-step-next-clause-bits
returns-then-step-next-clause-bits c =
    let irqs = c.args.self.now in
    let step = c.args.step in
    let rise : Rise irqs = rw (← c.self.view_is) c.self.invariant.rise in
    let other : step ≡ step_at irqs (place_of irqs step) → ⊥ =
    λ e. absurd (omega (
      arith,
      e,
      c.if-step-next.true,
      c.requires.next,
      ap (step_at irqs) c.requires.place,
    )) in
    nothing_raised step irqs rise other

pub returns-then-step-next-clause-place : goal.returns-then-step-next-clause-place
returns-then-step-next-clause-place c =
    let irqs = c.args.self.now in
    let step = c.args.step in
    let rise : Rise irqs = rw (← c.self.view_is) c.self.invariant.rise in
    let other : step ≡ step_at irqs (place_of irqs step) → ⊥ =
    λ e. absurd (omega (
      arith,
      e,
      c.if-step-next.true,
      c.requires.next,
      ap (step_at irqs) c.requires.place,
    )) in
    c.requires.place ∙ same_place step irqs rise other
