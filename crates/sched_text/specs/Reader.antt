-- What contracts see of a reader, and what its calls say.
use Rattle.std.specs.Prelude.{◌≡◌, ◌⊎◌, ℕ, ◌+◌, if◌then◌else◌, List, [], Bool, false, Option, Some}
use Rattle.std.specs.Prelude.{None, Result, Ok, Err}
use Rattle.ctr_port.specs.InHand.{Of}
use Rattle.sched_text.specs.Lines.{LineCut, Line, Long, Open, line_at}
use Rattle.sched_text.specs.Rows.{command_of}
use Rattle.sched_text.specs.Commands.{is_end, end_at}
use Rattle.sched_text.specs.declared.schedule.Command.{Command}
use Rattle.sched_text.specs.declared.schedule.Command.TheVariants as command
use Rattle.sched_text.specs.declared.faults.LineFault.{LineFault}
use Rattle.sched_text.specs.declared.faults.CommandFault.{CommandFault}
use Rattle.sched_text.specs.declared.faults.CommandFault.TheVariants as fault
use Rattle.sched_text.specs.declared.faults.ScheduleFault.{ScheduleFault}
use Rattle.sched_text.specs.declared.faults.ScheduleFault.TheVariants as schedule

pub record Reader : Type 0 where
  -- what was refused, if anything
  pub refused : Option ScheduleFault
  -- the number of the line last begun
  pub line : ℕ
  -- how many command lines came
  pub commands : ℕ
  -- `end` was answered
  pub ended : Bool
  -- the bytes in hand
  pub hand : List ℕ

-- the line of a text is `end`, and this follows it
abbrev pub EndsAt : LineCut → List ℕ → Type 0
EndsAt (Line line rest) text = (command_of line ≡ Ok command.End) × (rest ≡ text)
EndsAt Long text = ⊥
EndsAt Open text = ⊥

-- a command is answered, or a line refused, as defined of the text. After a failed read no whole
-- line is in hand, and nothing was passed over; or the line `end` was, and nothing is in hand
abbrev pub CommandAnswer : (List ℕ → Result (Command × List ℕ) LineFault) → Option (List ℕ)
    → Option (List ℕ) → List ℕ → Result Command CommandFault → Type 0
CommandAnswer defined text text' hand (Ok command) =
    Of text text' (λ t t'. defined t ≡ Ok (command, t'))
CommandAnswer defined text text' hand (Err (fault.Line f)) =
    Of text text' (λ t t'. defined t ≡ Err f)
CommandAnswer defined text text' hand (Err fault.ReadFault) =
    (line_at hand ≡ Open) × Of text text' (λ t t'. (t' ≡ t) ⊎ ((hand ≡ []) × EndsAt (line_at t) t'))

-- the fault of a command among those of the whole schedule
abbrev pub schedule_fault : CommandFault → ScheduleFault
schedule_fault (fault.Line f) = schedule.Line f
schedule_fault fault.ReadFault = schedule.ReadFault

abbrev pub refusal : Result Command CommandFault → Option ScheduleFault
refusal (Ok command) = None
refusal (Err f) = Some (schedule_fault f)

-- nothing follows the line `end`, or something does. After a failed read nothing is in hand, and
-- nothing was passed over
abbrev pub EndAnswer : ℕ → Option (List ℕ) → Option (List ℕ) → List ℕ
    → Result (Unit {0}) CommandFault → Type 0
EndAnswer line text text' hand (Ok _) = Of text text' (λ t t'. end_at line t ≡ Ok (command.End, t'))
EndAnswer line text text' hand (Err (fault.Line f)) = Of text text' (λ t t'. end_at line t ≡ Err f)
EndAnswer line text text' hand (Err fault.ReadFault) = (hand ≡ []) × Of text text' (λ t t'. t' ≡ t)

-- the answer of a call that read the line `end`
abbrev pub end_answer : Result (Unit {0}) CommandFault → Result Command CommandFault
end_answer (Ok _) = Ok command.End
end_answer (Err f) = Err f

-- before the first line
abbrev pub fresh : Reader
fresh = record { refused = None; line = 0; commands = 0; ended = false; hand = [] }

-- what is kept of an answer of `header` or `image`
abbrev pub refusal_of : {A : Type 0} → Result A ScheduleFault → Option ScheduleFault
refusal_of (Ok x) = None
refusal_of (Err f) = Some f

-- how many command lines came, after a call; `end` isn't count_after
abbrev pub count_after : ℕ → Result Command CommandFault → ℕ
count_after count (Ok command) = if is_end command then count else count + 1
count_after count (Err f) = count

abbrev pub ends_now : Result Command CommandFault → Bool
ends_now (Ok command) = is_end command
ends_now (Err f) = false
