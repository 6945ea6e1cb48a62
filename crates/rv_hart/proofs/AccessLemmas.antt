-- An access to a register that is answered: what its event makes of the record buffer is what the access left.
use Rattle.std.proofs.Common.{◌≡◌, refl, ℕ, fold, Option, Some, None, Ok}
use Rattle.ctr_buffer.specs.declared.event.Event.{Event}
use Rattle.ctr_buffer.specs.History.{after}
use Rattle.ctr_buffer.specs.Stack.{Stack}
use Rattle.indirect_regs.specs.Access.{AccessResult}
use Rattle.indirect_regs.specs.Unit.{after_any}
use Rattle.rv_hart.specs.Processor.{put, at_next}
use Rattle.rv_hart.specs.Step.{any_event, by_access}
use Rattle.rv_hart.specs.Hart.{HartState, ran, reached}

pub folded_any : (s : Stack) (e : Option Event) → fold after s (any_event e) ≡ after_any s e
folded_any s None = refl
folded_any s (Some e) = refl

pub access_lands : (h : HartState) (a : AccessResult) (rd word old : ℕ)
    → a.answer ≡ Ok old
    → a.unit.stack ≡ after_any h.unit.stack a.event
    → record (reached h a) { core = at_next (put (reached h a).core rd old) } ≡ ran h (by_access a rd word h.core h.unit)
access_lands h a rd word old answered buffer = rw (answered, folded_any h.unit.stack a.event, ← buffer) refl
