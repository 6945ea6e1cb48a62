-- Which schedule a text says.
use Rattle.std.specs.Prelude.{◌≡◌, ◌⊎◌, ℕ, ◌<◌, List, [], ◌∷◌, ◌++◌, length, slice_get, Some}
use Rattle.replay_engine.specs.Breaks.{HasAllowed, IsAccepted, CommandRefused}
use Rattle.sched_text.specs.Header.{HeaderBreak}
use Rattle.sched_text.specs.Text.{HasImage, ImagesBreak}
use Rattle.sched_text.specs.declared.faults.LineFault.{LineFault}
use Rattle.sched_text.specs.declared.faults.Reason.TheVariants.{Cut}
use Rattle.sched_text.specs.declared.limits.TheConstants.{WINDOW}
use Rattle.sched_text.specs.declared.schedule.Command.{Command}
use Rattle.sched_text.specs.declared.schedule.Command.TheVariants.{End}
use Rattle.sched_text.specs.declared.schedule.Header.{Header}
use Rattle.ctrsim_cli.specs.Schedule.{Schedule}

-- these are the images of the tasks, each whole in the text
pub record AreImages (text : List ℕ) (h : Header) (images : List (List ℕ)) : Type 0 where
  pub size : length images ≡ length h.tasks
  pub each : (t : ℕ) (image : List ℕ) → slice_get images t ≡ Some image → HasImage text t image

-- the text is accepted, and this is its schedule
pub record IsAcceptedAs (text : List ℕ) (s : Schedule) : Type 0 where
  pub accepted : IsAccepted text (s.commands ++ End ∷ [])
  pub header : accepted.whole.has.progress ≡ s.header
  pub images : AreImages text s.header s.images

-- the line after the commands of the schedule is refused
pub record IsRefusedAfter (text : List ℕ) (s : Schedule) (f : LineFault) : Type 0 where
  pub refused : CommandRefused text f
  pub header : refused.before.has.progress ≡ s.header
  pub commands : refused.commands ≡ s.commands
  pub images : AreImages text s.header s.images

-- a line before the first command is refused, or the text ends inside the images
abbrev pub IsRefusedBefore : List ℕ → LineFault → Type 0
IsRefusedBefore text f = HeaderBreak text f ⊎ ImagesBreak text f

-- `rest` is left of a text, and fewer bytes than a window has were taken ahead, behind the line of
-- this command, which may be performed after those of the schedule
pub record IsTakenTo (text rest : List ℕ) (s : Schedule) (c : Command) : Type 0 where
  pub lines : ℕ
  pub count : ℕ
  pub behind : List ℕ
  pub ahead : List ℕ
  pub left : behind ≡ ahead ++ rest
  pub begins : HasAllowed text lines count (s.commands ++ c ∷ []) behind
  pub header : begins.has.progress ≡ s.header
  pub images : AreImages text s.header s.images
  pub near : length ahead < WINDOW

-- the text ends before the first command, in the middle of a line or of the images
abbrev pub IsCutBefore : List ℕ → Type 0
IsCutBefore t = (f : LineFault) × (f.reason ≡ Cut) × IsRefusedBefore t f

-- the text is accepted as the schedule, or it ends after the schedule's commands, in the middle of
-- a line or with no `end`
abbrev pub IsCutAfter : List ℕ → Schedule → Type 0
IsCutAfter t s = IsAcceptedAs t s ⊎ ((f : LineFault) × (f.reason ≡ Cut) × IsRefusedAfter t s f)

-- the bytes that were taken, where `rest` is left of the text, are such
abbrev pub Took : (List ℕ → Type 0) → List ℕ → List ℕ → Type 0
Took P text rest = (taken : List ℕ) × (text ≡ taken ++ rest) × P taken
