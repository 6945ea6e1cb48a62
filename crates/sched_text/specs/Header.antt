-- The header: the lines up to `images`, and the first of them that is refused.
use Rattle.std.specs.Prelude.{◌≡◌, ℕ, zero, suc, ◌+◌, ◌≤◌, if◌then◌else◌, nat_lt, Bool, true, false}
use Rattle.std.specs.Prelude.{List, [], ◌∷◌, ◌++◌, length, Option, Some, None, Result, Ok, Err}
use Rattle.std.specs.Prelude.{codes, ⊤}
use Rattle.std.specs.List.{All}
use Rattle.ctr_port.specs.InHand.{Of}
use Rattle.perf_sample.specs.Layout.{IsLayout, IsBranchWord}
use Rattle.sched_text.specs.Lines.{LineCut, Line, Long, Open, line_at}
use Rattle.sched_text.specs.Rows.{◌>>=◌, has_form, version_of, harts_of, layout_of, branch_of}
use Rattle.sched_text.specs.Rows.{task_of, irq_of, IsTask}
use Rattle.sched_text.specs.Irqs.{irq_refusal, IsIrq, AllFollow}
use Rattle.sched_text.specs.declared.rows.IrqWords.{IrqWords}
use Rattle.sched_text.specs.declared.rows.Version.{Version}
use Rattle.sched_text.specs.declared.rows.Version.TheVariants as version
use Rattle.sched_text.specs.declared.schedule.Header.{Header}
use Rattle.sched_text.specs.declared.schedule.TaskLine.{TaskLine}
use Rattle.sched_text.specs.declared.schedule.IrqLine.{IrqLine}
use Rattle.sched_text.specs.declared.faults.Reason.{Reason}
use Rattle.sched_text.specs.declared.faults.Reason.TheVariants as reason
use Rattle.sched_text.specs.declared.faults.LineFault.{LineFault}
use Rattle.sched_text.specs.declared.faults.ScheduleFault.{ScheduleFault}
use Rattle.sched_text.specs.declared.faults.ScheduleFault.TheVariants as fault
use Rattle.sched_text.specs.declared.limits.TheConstants.{MAX_TASKS}

-- the lines of a header so far, by what they say
pub data HeaderLines : Type 0 where
  -- none
  NoLine : HeaderLines
  -- ctr-schedule VERSION
  Versioned : Version → HeaderLines
  -- ctr-schedule VERSION, harts N
  Counted : Version → ℕ → HeaderLines
  -- ctr-schedule 2, harts N, layout HEX: a branch line comes next
  LaidOut : ℕ → ℕ → HeaderLines
  -- these lines, the branch line of version 2, task lines, and irq lines
  Rows : Header → HeaderLines
  -- all of them, and `images`
  Whole : Header → HeaderLines

-- a header without task lines
abbrev pub no_rows : ℕ → ℕ → ℕ → Header
no_rows harts layout branch =
    record { harts = harts; layout = layout; branch = branch; tasks = []; irqs = [] }

-- the layout is the last line before the task lines in version 1, whose branch word is 0
abbrev pub with_layout : Version → ℕ → ℕ → HeaderLines
with_layout version.One harts layout = Rows (no_rows harts layout 0)
with_layout version.Two harts layout = LaidOut harts layout

-- a task line, where there are fewer than 64
abbrev pub add_task : Header → TaskLine → Result HeaderLines Reason
add_task h task =
    if nat_lt (length h.tasks) MAX_TASKS then Ok (Rows (record h { tasks = h.tasks ++ task ∷ [] }))
    else Err reason.TooMany

abbrev pub with_task : Header → List ℕ → Result HeaderLines Reason
with_task h line = do
  task ← task_of line
  add_task h task

abbrev pub irq_line : IrqWords → IrqLine
irq_line irq = record { task = irq.task; step = irq.step; cause = irq.cause }

abbrev pub add_judged : Header → IrqLine → Option Reason → Result HeaderLines Reason
add_judged h irq None = Ok (Rows (record h { irqs = h.irqs ++ irq ∷ [] }))
add_judged h irq (Some why) = Err why

-- an irq line of a task that is there, where it may follow those before it. A task that isn't there
-- has none, so none is too many
abbrev pub add_irq : Header → IrqWords → Result HeaderLines Reason
add_irq h irq =
    if nat_lt irq.task (length h.tasks) then
    add_judged h (irq_line irq) (irq_refusal h.irqs (irq_line irq))
    else Err reason.NoTask

abbrev pub with_irq : Header → List ℕ → Result HeaderLines Reason
with_irq h line = do
  irq ← irq_of line
  add_irq h irq

abbrev pub with_images : Header → List ℕ → Result HeaderLines Reason
with_images h line = if has_form line (codes "images") 1 then Ok (Whole h) else Err reason.NotWord

abbrev pub irq_or_images : Header → List ℕ → Result HeaderLines Reason
irq_or_images h line = if has_form line (codes "irq") 4 then with_irq h line else with_images h line

-- a task line comes first; a task line, an irq line or `images` behind it; and behind an irq line
-- no task line
abbrev pub with_row : List IrqLine → List TaskLine → Header → List ℕ → Result HeaderLines Reason
with_row [] [] h line = with_task h line
with_row [] (task ∷ tasks) h line =
    if has_form line (codes "task") 7 then with_task h line else irq_or_images h line
with_row (irq ∷ irqs) tasks h line = irq_or_images h line

-- one more line, or the first rule that it breaks
abbrev pub with_line : HeaderLines → List ℕ → Result HeaderLines Reason
with_line NoLine line = do
  version ← version_of line
  Ok (Versioned version)
with_line (Versioned version) line = do
  harts ← harts_of line
  Ok (Counted version harts)
with_line (Counted version harts) line = do
  layout ← layout_of line
  Ok (with_layout version harts layout)
with_line (LaidOut harts layout) line = do
  branch ← branch_of line
  Ok (Rows (no_rows harts layout branch))
with_line (Rows h) line = with_row h.irqs h.tasks h line
with_line (Whole h) line = Err reason.NotWord

abbrev pub is_whole : HeaderLines → Bool
is_whole (Whole h) = true
is_whole _ = false

abbrev pub refuse : {A : Type 0} → ℕ → Reason → Result A LineFault
refuse line why = Err (record { line = line; reason = why })

abbrev pub row_cut : {A : Type 0} → ℕ → List ℕ → Result A Reason → Result (A × List ℕ) LineFault
row_cut n rest (Ok lines) = Ok (lines, rest)
row_cut n rest (Err why) = refuse n why

-- line n, behind these
abbrev pub header_cut : ℕ → HeaderLines → LineCut → Result (HeaderLines × List ℕ) LineFault
header_cut n lines (Line line rest) = row_cut n rest (with_line lines line)
header_cut n lines Long = refuse n reason.LongLine
header_cut n lines Open = refuse n reason.Cut

abbrev pub next_line : ℕ → Result (HeaderLines × List ℕ) LineFault
    → Result (HeaderLines × List ℕ) LineFault
next_line n (Ok x) = header_cut n x.0 (line_at x.1)
next_line n (Err f) = Err f

-- the first n lines of a text, and what follows them
unfoldable pub after : ℕ → List ℕ → Result (HeaderLines × List ℕ) LineFault
after zero text = Ok (NoLine, text)
after (suc n) text = next_line (suc n) (after n text)

-- a header stands at the front of a text: its last line has this number, and this follows it
pub record HasHeader (text : List ℕ) (lines : ℕ) (h : Header) (rest : List ℕ) : Type 0 where
  pub reads : after lines text ≡ Ok (Whole h, rest)

-- so many lines at the front of a text are taken, and the header goes on
pub record IsBegun (text : List ℕ) (count : ℕ) (lines : HeaderLines) (rest : List ℕ) : Type 0 where
  pub reads : after count text ≡ Ok (lines, rest)
  pub goes_on : is_whole lines ≡ false

-- a text is refused in its header: the line after those that are taken
pub record HeaderBreak (text : List ℕ) (f : LineFault) : Type 0 where
  pub before : ℕ
  pub lines : HeaderLines
  pub rest : List ℕ
  pub begun : IsBegun text before lines rest
  pub refused : header_cut (before + 1) lines (line_at rest) ≡ Err f

-- what a header says is in the ranges of its lines, and its irq lines may follow one another
pub record IsHeader (h : Header) : Type 0 where
  pub one_hart : 1 ≤ h.harts
  pub harts : h.harts ≤ 16
  pub layout : IsLayout h.layout
  pub branch : IsBranchWord h.branch
  pub one_task : 1 ≤ length h.tasks
  pub few : length h.tasks ≤ MAX_TASKS
  pub tasks : All IsTask h.tasks
  pub irqs : All (IsIrq (length h.tasks)) h.irqs
  pub order : AllFollow h.irqs

-- the line after those that are taken was begun
abbrev pub IsCutOff : ℕ → List ℕ → List ℕ → Type 0
IsCutOff line text rest =
    (before : ℕ) × (lines : HeaderLines) × (line ≡ before + 1) × IsBegun text before lines rest

-- a header is answered, or a line refused, as defined of the text, where `line` is the number of
-- the line last begun. After a failed read no whole line is in hand, and only whole lines were
-- passed over
abbrev pub HeaderAnswer : ℕ → Option (List ℕ) → Option (List ℕ) → List ℕ
    → Result Header ScheduleFault → Type 0
HeaderAnswer line text text' hand (Ok h) = Of text text' (λ t t'. HasHeader t line h t')
HeaderAnswer line text text' hand (Err (fault.Line f)) =
    (f.line ≡ line) × Of text text' (λ t t'. HeaderBreak t f)
HeaderAnswer line text text' hand (Err fault.ReadFault) =
    (line_at hand ≡ Open) × Of text text' (IsCutOff line)
HeaderAnswer line text text' hand (Err fault.Memory) = ⊤
