use Rattle.std.proofs.Common.{◌∙◌}
use Rattle.guest_modes.proofs.InterruptLemmas.{interrupts_has}
use Rattle.guest_modes.proofs.interrupts.is_interrupt.Goals as goal

pub returns-then-number-lt64 : goal.returns-then-number-lt64
returns-then-number-lt64 c = c.has.ensures ∙ interrupts_has c.args.number
