-- What reading a whole schedule comes to.
use Rattle.std.specs.Prelude.{◌≡◌, ◌⊎◌, ℕ, ◌+◌, ◌<◌, ◌≤◌, List, [], ◌++◌, length, take, drop}
use Rattle.std.specs.Prelude.{Option, Some, None, Result, Ok, Err, ⊤, Bool, true, false}
use Rattle.std.specs.List.{sum_by}
use Rattle.ctr_port.specs.InHand.{Of, text_of}
use Rattle.sched_text.specs.Lines.{Open, line_at}
use Rattle.sched_text.specs.Images.{IsWithin}
use Rattle.sched_text.specs.Commands.{command_at, commands_after}
use Rattle.sched_text.specs.Reader.{Reader, EndsAt}
use Rattle.sched_text.specs.Header.{HasHeader}
use Rattle.sched_text.specs.Text.{TextBreak, IsWhole, HasCommands, HasImage, has_end, images_len}
use Rattle.sched_text.specs.declared.schedule.Header.{Header}
use Rattle.sched_text.specs.declared.schedule.TaskLine.{TaskLine}
use Rattle.sched_text.specs.declared.schedule.Command.{Command}
use Rattle.sched_text.specs.declared.schedule.Command.TheVariants as command
use Rattle.sched_text.specs.declared.faults.LineFault.{LineFault}
use Rattle.sched_text.specs.declared.faults.Reason.TheVariants as reason
use Rattle.sched_text.specs.declared.faults.ScheduleFault.{ScheduleFault}
use Rattle.sched_text.specs.declared.faults.ScheduleFault.TheVariants as fault
use Rattle.sched_text.specs.declared.limits.TheConstants.{WINDOW}

-- accepted, or cut at its end
abbrev pub IsWholeOrCut : List ℕ → Type 0
IsWholeOrCut t =
    ((commands : List Command) × IsWhole t commands)
    ⊎ ((f : LineFault) × (f.reason ≡ reason.Cut) × TextBreak t f)

abbrev pub TextOutcome : Option (List ℕ) → Option (List ℕ) → Result (Unit {0}) ScheduleFault
    → Type 0
TextOutcome left left' (Ok _) =
    Of left left' (λ b b'. (b' ≡ []) × ((commands : List Command) × IsWhole b commands))
TextOutcome left left' (Err (fault.Line f)) = Of left left' (λ b b'. TextBreak b f)
TextOutcome left left' (Err fault.ReadFault) =
    Of left left' (λ b b'. (t : List ℕ) × (b ≡ t ++ b') × IsWholeOrCut t)
TextOutcome left left' (Err fault.Memory) = ⊤

-- how many bytes the images of tasks have
abbrev pub total : List TaskLine → ℕ
total tasks = sum_by (λ t. t.image) tasks

-- so many bytes were passed over
abbrev pub IsBehind : ℕ → List ℕ → List ℕ → Type 0
IsBehind len t t' = (len ≤ length t) × (t' ≡ drop len t)

abbrev pub IsShort : ℕ → ℕ → LineFault → List ℕ → Type 0
IsShort line len f t = (length t < len) × (f ≡ record { line = line; reason = reason.Cut })

-- a header whose last line has this number, and its images, stand at the front of a text
abbrev pub Opened : ℕ → Header → List ℕ → List ℕ → Type 0
Opened line h t t' = (rest : List ℕ) × HasHeader t line h rest × IsBehind (total h.tasks) rest t'

-- a reader stands behind them; or the fault is that of the text
pub record IsOpen (left left' : Option (List ℕ)) (r : Reader) : Type 0 where
  pub header : Header
  pub free : r.refused ≡ None
  pub goes_on : r.ended ≡ false
  pub none : r.commands ≡ 0
  pub opened : Of (text_of [] left) (text_of r.hand left') (Opened r.line header)

abbrev pub OpenAnswer : Option (List ℕ) → Option (List ℕ) → Result Reader ScheduleFault → Type 0
OpenAnswer left left' (Ok r) = IsOpen left left' r
OpenAnswer left left' (Err f) = TextOutcome left left' (Err f)

-- images of so many bytes together
abbrev pub ImagesAnswer : ℕ → ℕ → Option (List ℕ) → Option (List ℕ) → List ℕ
    → Result (Unit {0}) ScheduleFault → Type 0
ImagesAnswer line len text text' hand (Ok _) = Of text text' (IsBehind len)
ImagesAnswer line len text text' hand (Err (fault.Line f)) =
    Of text text' (λ t t'. IsShort line len f t)
ImagesAnswer line len text text' hand (Err fault.ReadFault) =
    (hand ≡ []) × Of text text' (IsWithin len)
ImagesAnswer line len text text' hand (Err fault.Memory) = ⊤

-- the first commands behind some lines of a text, none of them `end`, and what follows them
abbrev pub FirstCommands : ℕ → ℕ → List Command → List ℕ → List ℕ → Type 0
FirstCommands lines count cs t t' =
    (commands_after count lines t ≡ Ok (cs, t')) × (has_end cs ≡ false)

-- some commands, and after them such a text
abbrev pub BehindCommands : ℕ → (ℕ → List ℕ → Type 0) → List ℕ → Type 0
BehindCommands lines P t =
    (count : ℕ)
    × (cs : List Command)
    × (middle : List ℕ)
    × FirstCommands lines count cs t middle
    × P count middle

-- commands up to `end`, with nothing behind it; or up to a line that is refused; or up to a failed
-- read, with no whole line in hand
abbrev pub CommandsAnswer : ℕ → Option (List ℕ) → Option (List ℕ) → List ℕ
    → Result (Unit {0}) ScheduleFault → Type 0
CommandsAnswer lines text text' hand (Ok _) =
    Of text text'
    (λ t t'. BehindCommands lines
    (λ count m. command_at (lines + (count + 1)) count m ≡ Ok (command.End, t')) t)
CommandsAnswer lines text text' hand (Err (fault.Line f)) =
    Of text text'
    (λ t t'. BehindCommands lines (λ count m. command_at (lines + (count + 1)) count m ≡ Err f) t)
CommandsAnswer lines text text' hand (Err fault.ReadFault) =
    (line_at hand ≡ Open)
    × Of text text' (λ t t'. BehindCommands lines (λ count m. (t' ≡ m) ⊎ ((hand ≡ [])
    × EndsAt (line_at m) t')) t)
CommandsAnswer lines text text' hand (Err fault.Memory) = ⊤

-- the commands so far, none of them `end`
abbrev pub HasFirstCommands : ℕ → ℕ → List ℕ → List ℕ → Type 0
HasFirstCommands lines count t t' = (cs : List Command) × FirstCommands lines count cs t t'

-- header, images and so many commands, none of them `end`, the last of them in this line; and fewer
-- bytes than a window has were taken behind it
abbrev pub HasReadCommands : Option (List ℕ) → Option (List ℕ) → ℕ → ℕ → Type 0
HasReadCommands left left' line count =
    Of left left'
    (λ b b'. (lines : ℕ) × (cs : List Command) × (behind : List ℕ)
    × HasCommands b lines count cs behind × (has_end cs ≡ false) × (line ≡ lines + count)
    × (length behind < length b' + WINDOW))

-- `end` stands behind fewer commands, or there are so many; or a line is refused, or a read failed
-- before
abbrev pub SomeCommandsAnswer : ℕ → ℕ → Option (List ℕ) → Option (List ℕ) → List ℕ → ℕ
    → Result Bool ScheduleFault → Type 0
SomeCommandsAnswer lines most text text' hand line (Ok false) =
    Of text text' (HasFirstCommands lines most) × (length hand < WINDOW) × (line ≡ lines + most)
SomeCommandsAnswer lines most text text' hand line (Ok true) =
    Of text text'
    (λ t t'. BehindCommands lines
    (λ count m. (count < most)
    × (command_at (lines + (count + 1)) count m ≡ Ok (command.End, t'))) t)
SomeCommandsAnswer lines most text text' hand line (Err f) =
    CommandsAnswer lines text text' hand (Err f)

-- a whole text of so many commands at most, `end` among them
abbrev pub IsWholeWithin : ℕ → List ℕ → Type 0
IsWholeWithin most b = (commands : List Command) × IsWhole b commands × (length commands ≤ most)

-- the line of a command; none where `end` comes before; and a fault as for the whole text
abbrev pub LineOutcome : Option (List ℕ) → Option (List ℕ) → ℕ → Result (Option ℕ) ScheduleFault
    → Type 0
LineOutcome left left' most (Ok (Some line)) = HasReadCommands left left' line most
LineOutcome left left' most (Ok None) = Of left left' (λ b b'. (b' ≡ []) × IsWholeWithin most b)
LineOutcome left left' most (Err f) = TextOutcome left left' (Err f)

-- the image of a task behind a header, by the task lines
abbrev pub IsImage : List TaskLine → ℕ → List ℕ → List ℕ → Type 0
IsImage tasks i image t =
    (i < length tasks)
    × (total (take (i + 1) tasks) ≤ length t)
    × (image ≡ drop (total (take i tasks)) (take (total (take (i + 1) tasks)) t))

-- the image of a task; none where there are fewer tasks, and then all images are whole
abbrev pub TaskImageAnswer : ℕ → List TaskLine → ℕ → Option (List ℕ) → Option (List ℕ) → List ℕ
    → Result (Option (List ℕ)) ScheduleFault → Type 0
TaskImageAnswer line tasks i text text' hand (Ok (Some image)) =
    Of text text' (λ t t'. IsImage tasks i image t)
TaskImageAnswer line tasks i text text' hand (Ok None) =
    (length tasks ≤ i) × Of text text' (IsBehind (total tasks))
TaskImageAnswer line tasks i text text' hand (Err f) =
    ImagesAnswer line (total tasks) text text' hand (Err f)

-- header and images are whole, and there is no task of this number
pub record HasNoTask (text : List ℕ) (task : ℕ) : Type 0 where
  pub lines : ℕ
  pub h : Header
  pub rest : List ℕ
  pub header : HasHeader text lines h rest
  pub images : images_len h ≤ length rest
  pub none : length h.tasks ≤ task

abbrev pub ImageOutcome : Option (List ℕ) → Option (List ℕ) → ℕ
    → Result (Option (List ℕ)) ScheduleFault → Type 0
ImageOutcome left left' i (Ok (Some image)) = Of left left' (λ b b'. HasImage b i image)
ImageOutcome left left' i (Ok None) = Of left left' (λ b b'. HasNoTask b i)
ImageOutcome left left' i (Err f) = TextOutcome left left' (Err f)
