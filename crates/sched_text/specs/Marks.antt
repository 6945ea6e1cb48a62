-- What the reader keeps of the irq lines: a mark for each task.
use Rattle.std.specs.Prelude.{◌≡◌, ℕ, ◌+◌, ◌<◌, ◌≤◌, ◌&&◌, ◌||◌, if◌then◌else◌, nat_eq, nat_lt}
use Rattle.std.specs.Prelude.{nat_le, List, length, get_or, Option, Some, None}
use Rattle.std.specs.List.{fold, sum_by, All}
use Rattle.sched_text.specs.declared.irqs.Mark.{Mark}
use Rattle.sched_text.specs.declared.schedule.IrqLine.{IrqLine}
use Rattle.sched_text.specs.declared.faults.Reason.{Reason}
use Rattle.sched_text.specs.declared.faults.Reason.TheVariants as reason
use Rattle.sched_text.specs.declared.limits.TheConstants.{MAX_TASKS, MAX_IRQS}

-- how many irq lines a task has, with the step and the cause of the last
abbrev pub no_mark : Mark
no_mark = record { count = 0; step = 0; cause = 0 }

abbrev pub mark_with : Mark → IrqLine → Mark
mark_with m irq = record { count = m.count + 1; step = irq.step; cause = irq.cause }

abbrev pub note : ℕ → Mark → IrqLine → Mark
note task m irq = if nat_eq irq.task task then mark_with m irq else m

abbrev pub mark_of : ℕ → List IrqLine → Mark
mark_of task irqs = fold (note task) no_mark irqs

-- why a line may not follow those of its task, by their mark
abbrev pub mark_refusal : Mark → IrqLine → Option Reason
mark_refusal m irq =
    if nat_le MAX_IRQS m.count then Some reason.TooMany
    else if nat_lt 0 m.count
    && (nat_lt irq.step m.step || nat_eq irq.step m.step && nat_le irq.cause m.cause) then
    Some reason.IrqOrder
    else None

-- the marks of the 64 tasks that there can be
pub record Marked (marks : List Mark) (irqs : List IrqLine) : Type 0 where
  pub tasks : length marks ≡ MAX_TASKS
  pub each : (task : ℕ) → task < MAX_TASKS → get_or marks task no_mark ≡ mark_of task irqs
  pub few : All (λ m. m.count ≤ MAX_IRQS) marks
  pub all : length irqs ≡ sum_by (λ m. m.count) marks
