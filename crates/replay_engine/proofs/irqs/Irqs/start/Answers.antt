use Rattle.std.proofs.Common.{◌≡◌, ◌+◌, ◌-◌, ◌<◌, ℕ, List, None, drop, get_or, length, arith, ap}
use Rattle.std.proofs.Common.{◌∙◌, subst}
use Rattle.std.proofs.lemmas.List.{get_or_default}
use Rattle.rv_hart.specs.Task.{Irq}
use Rattle.replay_engine.specs.Irqs.{Rise, no_irq, place_of}
use Rattle.replay_engine.proofs.IrqLaws.{early_place}
use Rattle.replay_engine.proofs.irqs.Irqs.start.Goals as goal

pub returns-then-last-step-clause-counted : goal.returns-then-last-step-clause-counted
returns-then-last-step-clause-counted c =
    let irqs = c.args.self.now in
    let step = c.args.step in
    let k = c.args.hint - 1 in
    let rise : Rise irqs = rw (← c.self.view_is) c.self.invariant.rise in
    let within : k < length irqs =
    omega (
      arith,
      c.if-hint-len.false,
      c.len.ensures,
      ap (λ (xs : List Irq). length xs)
          c.self.view_is,
      c.if-hint-eq0.false,
    ) in
    let got : c.index-last.result.now ≡ get_or irqs k no_irq
    = c.index-last.ensures ∙ ap (λ (xs : List Irq). get_or xs k c.index-last.result.now)
    c.self.view_is
    ∙ get_or_default irqs k _ no_irq within in
    let before : (get_or irqs k no_irq).step < step
    = omega (
      arith,
      c.if-last-step.true,
      ap (λ (i : Irq). i.step) c.last.view_is,
      ap
          (λ (i : Irq). i.step) got,
    ) in
    let at : k + 1 ≡ c.args.hint = omega (arith, c.if-hint-eq0.false) in
    subst (λ (j : ℕ). place_of irqs step ≡ j + place_of (drop j irqs) step) at
    (early_place step k None irqs rise (record { within = within; before = before }))
