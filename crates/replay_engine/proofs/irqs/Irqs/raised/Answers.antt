use Rattle.std.proofs.Common.{◌≡◌, ◌+◌, List, None, get_or, drop, sym, ap, ◌∙◌, refl, arith}
use Rattle.std.proofs.lemmas.List.{get_or_default}
use Rattle.std.specs.Prelude.{bit_or}
use Rattle.std.specs.Int.Bits.{or_zero_l, or_zero_r}
use Rattle.rv_hart.specs.Task.{Irq, causes}
use Rattle.replay_engine.specs.Irqs.{no_irq, place_of, Rise}
use Rattle.replay_engine.proofs.IrqLaws.{from_place, place_within, raised_from, placed_from}
use Rattle.replay_engine.proofs.IrqLaws.{not_due, none_raised, none_placed, due_raised, due_placed}
use Rattle.replay_engine.proofs.IrqLaws.{due_from, within_both}
use Rattle.replay_engine.proofs.irqs.Irqs.raised.Goals as goal
use Rattle.guest_modes.specs.declared.causes.TheConstants.{INTERRUPTS}

pub loop-self-init : goal.loop-self-init
loop-self-init c =
    let irqs = c.args.self.now in
    let step = c.args.step in
    let rise : Rise irqs = rw (← c.self.view_is) c.self.invariant.rise in
    rw c.requires record {
      room = place_within step irqs;
      bits = or_zero_l (causes (drop (place_of irqs step) irqs) step)
          ∙ raised_from step None irqs rise;
      mask = refl;
      from = from_place step None irqs rise;
      counted = placed_from step None irqs rise;
    }

pub loop-self-preserved : goal.loop-self-preserved
loop-self-preserved c =
    let irqs = c.args.self.now in
    let step = c.args.step in
    let at = c.loop-self.at in
    let due = c.loop-self-test.ensures.yes in
    let invariant = c.loop-self.invariant in
    let got : c.index.result.now ≡ get_or irqs at no_irq
    = c.index.ensures ∙ ap (λ (xs : List Irq). get_or xs at c.index.result.now) c.self.view_is
    ∙ get_or_default irqs at _ no_irq due.within in
    record {
      room = omega (arith, due.within);
      bits = rw (c.bit-bits.ensures.bit, got) (sym (due_raised step at c.loop-self.bits irqs due)
          ∙ invariant.bits);
      mask =
          within_both INTERRUPTS c.loop-self.bits c.bit-bits.result invariant.mask
          c.bit-bits.ensures.within;
      from = due_from step at irqs due invariant.from;
      counted = invariant.counted ∙ due_placed step at irqs due;
    }

pub returns-clause-bits : goal.returns-clause-bits
returns-clause-bits c =
    let irqs = c.args.self.now in
    let step = c.args.step in
    let at = c.loop-self.at in
    let rise : Rise irqs = rw (← c.self.view_is) c.self.invariant.rise in
    let later = not_due step at irqs rise c.loop-self.invariant.from c.loop-self-test.ensures.no in
    sym (or_zero_r c.loop-self.bits) ∙ ap (bit_or c.loop-self.bits)
    (sym (none_raised step (drop at irqs) later)) ∙ c.loop-self.invariant.bits

pub returns-clause-place : goal.returns-clause-place
returns-clause-place c =
    let irqs = c.args.self.now in
    let step = c.args.step in
    let at = c.loop-self.at in
    let rise : Rise irqs = rw (← c.self.view_is) c.self.invariant.rise in
    let later = not_due step at irqs rise c.loop-self.invariant.from c.loop-self-test.ensures.no in
    omega (arith, c.loop-self.invariant.counted, none_placed (step + 1) (drop at irqs) later)
