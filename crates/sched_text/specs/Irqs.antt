-- Which irq lines may follow others.
use Rattle.std.specs.Prelude.{◌≡◌, ℕ, ◌<◌, ◌≤◌, ◌&&◌, ◌||◌, if◌then◌else◌, nat_eq, nat_lt, nat_le}
use Rattle.std.specs.Prelude.{Bool, List, [], ◌∷◌, ◌++◌, length, true, Option, Some, None, ⊤}
use Rattle.std.specs.List.{fold, filter}
use Rattle.sched_text.specs.Rows.{is_cause}
use Rattle.sched_text.specs.declared.schedule.IrqLine.{IrqLine}
use Rattle.sched_text.specs.declared.faults.Reason.{Reason}
use Rattle.sched_text.specs.declared.faults.Reason.TheVariants as reason
use Rattle.sched_text.specs.declared.limits.TheConstants.{MAX_IRQS, MAX_IRQ_STEP}

-- those of one task
abbrev pub lines_of_task : ℕ → List IrqLine → List IrqLine
lines_of_task task irqs = filter (λ irq. nat_eq irq.task task) irqs

-- the last of some lines
abbrev pub last : List IrqLine → Option IrqLine
last irqs = fold (λ _ irq. Some irq) None irqs

-- the step is below that of a line, or equal with a cause that isn't greater
abbrev pub is_early : IrqLine → IrqLine → Bool
is_early before irq =
    nat_lt irq.step before.step || nat_eq irq.step before.step && nat_le irq.cause before.cause

abbrev pub order_refusal : Option IrqLine → IrqLine → Option Reason
order_refusal None irq = None
order_refusal (Some before) irq = if is_early before irq then Some reason.IrqOrder else None

-- why a line may not follow these of its task: there are 1,024, or it is early after the last
abbrev pub refusal_after : List IrqLine → IrqLine → Option Reason
refusal_after lines irq =
    if nat_le MAX_IRQS (length lines) then Some reason.TooMany else order_refusal (last lines) irq

-- why a line may not follow those before it
abbrev pub irq_refusal : List IrqLine → IrqLine → Option Reason
irq_refusal before irq = refusal_after (lines_of_task irq.task before) irq

-- a line of one of so many tasks, with its numbers in their ranges
pub record IsIrq (tasks : ℕ) (irq : IrqLine) : Type 0 where
  pub task : irq.task < tasks
  pub step : irq.step ≤ MAX_IRQ_STEP
  pub cause : is_cause irq.cause ≡ true

-- each of the lines may follow those before it
unfoldable pub follow_on : List IrqLine → List IrqLine → Type 0
follow_on before [] = ⊤
follow_on before (irq ∷ rest) =
    (irq_refusal before irq ≡ None) × follow_on (before ++ irq ∷ []) rest

abbrev pub AllFollow : List IrqLine → Type 0
AllFollow irqs = follow_on [] irqs
