-- The first line of a schedule that is refused: by its text, or by what the commands before it
-- left.
use Rattle.std.specs.Prelude.{◌≡◌, ◌⊎◌, ℕ, ◌+◌, ◌≤◌, true, false, List, [], ◌∷◌, ◌++◌, Option, Some}
use Rattle.std.specs.Prelude.{None}
use Rattle.std.specs.Prelude.{Ok, Err, ⊤}
use Rattle.sched_text.specs.Commands.{command_at}
use Rattle.sched_text.specs.Header.{HeaderBreak}
use Rattle.sched_text.specs.Text.{HasCommands, ImagesBreak, TextBreak, has_end}
use Rattle.sched_text.specs.declared.schedule.Command.{Command}
use Rattle.sched_text.specs.declared.faults.LineFault.{LineFault}
use Rattle.sched_text.specs.declared.faults.Reason.{Reason}
use Rattle.sched_text.specs.declared.faults.Reason.TheVariants as reason
use Rattle.replay_engine.specs.declared.fault.PerformFault.{PerformFault}
use Rattle.replay_engine.specs.declared.fault.PerformFault.TheVariants as fault
use Rattle.replay_engine.specs.Refusals.{command_refusal}
use Rattle.replay_engine.specs.Start.{plan_of}
use Rattle.replay_engine.specs.View.{Plan}

-- why a line is refused whose command is; a sink that fails refuses no line
abbrev pub reason_of : PerformFault → Option Reason
reason_of fault.NoTask = Some reason.NoTask
reason_of fault.NoHart = Some reason.NoHart
reason_of fault.NotResident = Some reason.NotResident
reason_of fault.EmptyHart = Some reason.EmptyHart
reason_of fault.Write = None

-- each of these commands may be performed after those before it
abbrev pub AllowedAfter : Plan → List Command → List Command → Type 0
AllowedAfter plan before [] = ⊤
AllowedAfter plan before (c ∷ cs) =
    (command_refusal plan before c ≡ None) × AllowedAfter plan (before ++ c ∷ []) cs

abbrev pub AreAllowed : Plan → List Command → Type 0
AreAllowed plan cs = AllowedAfter plan [] cs

-- header and images are whole, and so many commands, each of which may be performed
pub record HasAllowed (text : List ℕ) (lines count : ℕ) (commands : List Command) (behind : List ℕ)
    : Type 0 where
  pub has : HasCommands text lines count commands behind
  pub allowed : AreAllowed (plan_of has.progress) commands

-- the next line is refused by its text, where `end` didn't come
pub record ByText (line count : ℕ) (commands : List Command) (behind : List ℕ) (f : LineFault)
    : Type 0 where
  pub goes_on : has_end commands ≡ false
  pub refused : command_at line count behind ≡ Err f

-- its command is refused after those before it
pub record ByPlace (plan : Plan) (line count : ℕ) (commands : List Command) (behind : List ℕ)
    (f : LineFault) : Type 0 where
  pub command : Command
  pub rest : List ℕ
  pub why : PerformFault
  pub reason : Reason
  pub reads : command_at line count behind ≡ Ok (command, rest)
  pub refused : command_refusal plan commands command ≡ Some why
  pub named : reason_of why ≡ Some reason
  pub fault : f ≡ record { line = line; reason = reason }

-- the line after commands that may be performed is refused
pub record CommandRefused (text : List ℕ) (f : LineFault) : Type 0 where
  pub lines : ℕ
  pub count : ℕ
  pub commands : List Command
  pub behind : List ℕ
  pub before : HasAllowed text lines count commands behind
  pub refused : ByText (lines + (count + 1)) count commands behind f
      ⊎ ByPlace (plan_of before.has.progress) (lines + (count + 1)) count commands behind f

-- the first line of a schedule that is refused, with the first rule that applies to it
abbrev pub ScheduleBreak : List ℕ → LineFault → Type 0
ScheduleBreak text f = HeaderBreak text f ⊎ ImagesBreak text f ⊎ CommandRefused text f

-- a schedule without a break: its commands end with `end`, each may be performed, and nothing
-- follows
pub record IsAccepted (text : List ℕ) (commands : List Command) : Type 0 where
  pub lines : ℕ
  pub count : ℕ
  pub behind : List ℕ
  pub whole : HasAllowed text lines count commands behind
  pub ends : has_end commands ≡ true

-- a schedule is accepted, or it has one break, and not both; and its text doesn't break before
pub record AcceptedOrBroken (text : List ℕ) : Type 0 where
  pub some : ((commands : List Command) × IsAccepted text commands)
      ⊎ ((f : LineFault) × ScheduleBreak text f)
  pub not_both : (commands : List Command) (f : LineFault) → IsAccepted text commands
      → ScheduleBreak text f → ⊥
  pub one : (f g : LineFault) → ScheduleBreak text f → ScheduleBreak text g → f ≡ g
  pub never_after : (f g : LineFault) → TextBreak text f → ScheduleBreak text g → g.line ≤ f.line
  pub list : (first second : List Command) → IsAccepted text first → IsAccepted text second
      → first ≡ second
