use Rattle.guest_modes.proofs.InterruptLemmas.{mask_has_interrupts, interrupts_within, delegates_interrupts, delegates_exceptions}
use Rattle.guest_modes.proofs.laws.interrupt_laws.Goals as goal

pub returns-clause-mask_has_interrupts : goal.returns-clause-mask_has_interrupts
returns-clause-mask_has_interrupts c = mask_has_interrupts

pub returns-clause-interrupts_within : goal.returns-clause-interrupts_within
returns-clause-interrupts_within c = interrupts_within

pub returns-clause-delegates_interrupts : goal.returns-clause-delegates_interrupts
returns-clause-delegates_interrupts c = delegates_interrupts

pub returns-clause-delegates_exceptions : goal.returns-clause-delegates_exceptions
returns-clause-delegates_exceptions c = delegates_exceptions
