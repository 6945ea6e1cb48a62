-- The interrupts of a task in their order, and how many of them come before a step.
use Rattle.std.specs.Prelude.{◌≡◌, ◌⊎◌, ℕ, suc, ◌-◌, ◌^◌, ◌<◌, IsTrue, cond, nat_lt, List, []}
use Rattle.std.specs.Prelude.{◌∷◌, length}
use Rattle.std.specs.Prelude.{Option, Some, None, ⊤, All, get_or}
use Rattle.guest_modes.specs.declared.targets.Trap.TheVariants.{Interrupt}
use Rattle.guest_modes.specs.Traps.{is_cause}
use Rattle.rv_hart.specs.Task.{Irq}

-- it has the number of an interrupt (Privileged Architecture, "Machine Interrupt Registers")
abbrev pub IsIrq : Irq → Type 0
IsIrq irq = IsTrue (is_cause (Interrupt irq.cause))

-- a later step, or the same step and a greater number
abbrev pub IsAbove : Irq → Irq → Type 0
IsAbove before irq = (before.step < irq.step)
    ⊎ ((before.step ≡ irq.step) × (before.cause < irq.cause))

abbrev pub IsNext : Option Irq → Irq → Type 0
IsNext None irq = ⊤
IsNext (Some before) irq = IsAbove before irq

-- each is above the one before it
abbrev pub rise_from : Option Irq → List Irq → Type 0
rise_from before [] = ⊤
rise_from before (irq ∷ irqs) = IsNext before irq × rise_from (Some irq) irqs

abbrev pub Rise : List Irq → Type 0
Rise irqs = rise_from None irqs

-- the last of them
abbrev pub last_from : Option Irq → List Irq → Option Irq
last_from before [] = before
last_from before (irq ∷ irqs) = last_from (Some irq) irqs

-- one more can follow these
abbrev pub CanFollow : List Irq → Irq → Type 0
CanFollow irqs irq = IsNext (last_from None irqs) irq

-- the interrupts of a task
pub record AreIrqs (irqs : List Irq) : Type 0 where
  pub each : All IsIrq irqs
  pub rise : Rise irqs

-- how many come before a step
abbrev pub place_of : List Irq → ℕ → ℕ
place_of [] step = 0
place_of (irq ∷ irqs) step =
    cond (nat_lt irq.step step) (suc (place_of irqs step)) (place_of irqs step)

abbrev pub no_irq : Irq
no_irq = record { step = 0; cause = 0 }

-- there is one at this place, and it becomes pending at this step
pub record IsDue (irqs : List Irq) (at step : ℕ) : Type 0 where
  pub within : at < length irqs
  pub at_step : (get_or irqs at no_irq).step ≡ step

-- there is one at this place, and it becomes pending before this step
pub record IsEarly (irqs : List Irq) (at step : ℕ) : Type 0 where
  pub within : at < length irqs
  pub before : (get_or irqs at no_irq).step < step

-- the step of the one at this place; where there is none, one that no task comes to
abbrev pub step_at : List Irq → ℕ → ℕ
step_at irqs at = cond (nat_lt at (length irqs)) (get_or irqs at no_irq).step (2 ^ 64 - 1)
