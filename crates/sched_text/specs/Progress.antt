-- What the code keeps of the lines of a header: the place of the next one, with numbers in the
-- fields whose lines haven't come.
use Rattle.std.specs.Prelude.{◌≡◌, ℕ, ◌+◌, ◌<◌, ◌≤◌, if◌then◌else◌, nat_lt, Bool, true, false, List}
use Rattle.std.specs.Prelude.{[], ◌∷◌, ◌++◌, length, Option, Some, None, Result, Ok, Err, codes, ⊤}
use Rattle.std.specs.List.{All}
use Rattle.ctr_port.specs.InHand.{Of}
use Rattle.perf_sample.specs.Layout.{IsLayout, IsBranchWord}
use Rattle.sched_text.specs.Lines.{LineCut, Line, Long, Open, line_at}
use Rattle.sched_text.specs.Rows.{◌>>=◌, has_form, version_of, harts_of, layout_of, branch_of}
use Rattle.sched_text.specs.Rows.{task_of, irq_of, IsTask}
use Rattle.sched_text.specs.Irqs.{irq_refusal, IsIrq, AllFollow}
use Rattle.sched_text.specs.Header.{HeaderLines, NoLine, Versioned, Counted, LaidOut, Rows, Whole}
use Rattle.sched_text.specs.Header.{irq_line, refuse, row_cut}
use Rattle.sched_text.specs.declared.progress.Place.{Place}
use Rattle.sched_text.specs.declared.progress.Place.TheVariants as place
use Rattle.sched_text.specs.declared.progress.Progress.{Progress}
use Rattle.sched_text.specs.declared.progress.StepFault.{StepFault}
use Rattle.sched_text.specs.declared.progress.StepFault.TheVariants as fault
use Rattle.sched_text.specs.declared.rows.IrqWords.{IrqWords}
use Rattle.sched_text.specs.declared.rows.Version.{Version}
use Rattle.sched_text.specs.declared.rows.Version.TheVariants as version
use Rattle.sched_text.specs.declared.schedule.Header.{Header}
use Rattle.sched_text.specs.declared.schedule.TaskLine.{TaskLine}
use Rattle.sched_text.specs.declared.schedule.IrqLine.{IrqLine}
use Rattle.sched_text.specs.declared.faults.Reason.{Reason}
use Rattle.sched_text.specs.declared.faults.Reason.TheVariants as reason
use Rattle.sched_text.specs.declared.faults.LineFault.{LineFault}
use Rattle.sched_text.specs.declared.faults.ScheduleFault.{ScheduleFault}
use Rattle.sched_text.specs.declared.faults.ScheduleFault.TheVariants as schedule
use Rattle.sched_text.specs.declared.limits.TheConstants.{MAX_TASKS}

-- before the first line; the number of harts and the layout are overwritten by their lines, and the
-- branch word by its line, if there is one
abbrev pub start : Progress
start =
    record { place = place.Version; harts = 1; layout = 0x800; branch = 0; tasks = []; irqs = [] }

abbrev pub version_step : Progress → List ℕ → Result Progress Reason
version_step p line = do
  v ← version_of line
  Ok (record p { place = place.Harts v })

abbrev pub harts_step : Version → Progress → List ℕ → Result Progress Reason
harts_step v p line = do
  harts ← harts_of line
  Ok (record p { harts = harts; place = place.Layout v })

-- version 1 has no branch line
abbrev pub after_layout : Version → Place
after_layout version.One = place.FirstTask
after_layout version.Two = place.Branch

abbrev pub layout_step : Version → Progress → List ℕ → Result Progress Reason
layout_step v p line = do
  bits ← layout_of line
  Ok (record p { layout = bits; place = after_layout v })

abbrev pub branch_step : Progress → List ℕ → Result Progress Reason
branch_step p line = do
  bits ← branch_of line
  Ok (record p { branch = bits; place = place.FirstTask })

abbrev pub push_task : Progress → TaskLine → Result Progress Reason
push_task p task =
    if nat_lt (length p.tasks) MAX_TASKS then
    Ok (record p { tasks = p.tasks ++ task ∷ []; place = place.Tasks })
    else Err reason.TooMany

abbrev pub task_step : Progress → List ℕ → Result Progress Reason
task_step p line = do
  task ← task_of line
  push_task p task

-- a line that is judged by those of its task
abbrev pub irq_judged : Progress → IrqLine → Option Reason → Result Progress Reason
irq_judged p irq None = Ok (record p { irqs = p.irqs ++ irq ∷ []; place = place.Irqs })
irq_judged p irq (Some why) = Err why

abbrev pub push_irq : Progress → IrqWords → Result Progress Reason
push_irq p irq =
    if nat_lt irq.task (length p.tasks) then
    irq_judged p (irq_line irq) (irq_refusal p.irqs (irq_line irq))
    else Err reason.NoTask

abbrev pub irq_step : Progress → List ℕ → Result Progress Reason
irq_step p line = do
  irq ← irq_of line
  push_irq p irq

abbrev pub images_step : Progress → List ℕ → Result Progress Reason
images_step p line =
    if has_form line (codes "images") 1 then Ok (record p { place = place.Images })
    else Err reason.NotWord

abbrev pub after_irq_step : Progress → List ℕ → Result Progress Reason
after_irq_step p line =
    if has_form line (codes "irq") 4 then irq_step p line else images_step p line

abbrev pub after_task_step : Progress → List ℕ → Result Progress Reason
after_task_step p line =
    if has_form line (codes "task") 7 then task_step p line else after_irq_step p line

-- one more line
abbrev pub step_at : Place → Progress → List ℕ → Result Progress Reason
step_at place.Version p line = version_step p line
step_at (place.Harts v) p line = harts_step v p line
step_at (place.Layout v) p line = layout_step v p line
step_at place.Branch p line = branch_step p line
step_at place.FirstTask p line = task_step p line
step_at place.Tasks p line = after_task_step p line
step_at place.Irqs p line = after_irq_step p line
step_at place.Images p line = Err reason.NotWord

abbrev pub step : Progress → List ℕ → Result Progress Reason
step p line = step_at p.place p line

-- what a step of the reader says of it
abbrev pub Stepped : Result Progress Reason → Progress → Result (Unit {0}) StepFault → Type 0
Stepped stepped new (Ok _) = stepped ≡ Ok new
Stepped stepped new (Err (fault.Refused why)) = stepped ≡ Err why
Stepped stepped new (Err fault.Memory) = ⊤

-- where the next line stands behind these task and irq lines
abbrev pub row_place : List IrqLine → List TaskLine → Place
row_place [] [] = place.FirstTask
row_place [] (task ∷ tasks) = place.Tasks
row_place (irq ∷ irqs) tasks = place.Irqs

abbrev pub progress_at : Place → Header → Progress
progress_at at h = record {
  place = at;
  harts = h.harts;
  layout = h.layout;
  branch = h.branch;
  tasks = h.tasks;
  irqs = h.irqs;
}

-- what the code keeps of the lines so far
abbrev pub progress_of : HeaderLines → Progress
progress_of NoLine = start
progress_of (Versioned v) = record start { place = place.Harts v }
progress_of (Counted v harts) = record start { place = place.Layout v; harts = harts }
progress_of (LaidOut harts layout) =
    record start { place = place.Branch; harts = harts; layout = layout }
progress_of (Rows h) = progress_at (row_place h.irqs h.tasks) h
progress_of (Whole h) = progress_at place.Images h

-- the header that is kept, once `images` was read
abbrev pub header_of : Progress → Header
header_of p =
    record { harts = p.harts; layout = p.layout; branch = p.branch; tasks = p.tasks; irqs = p.irqs }

-- a task line was read
abbrev pub has_tasks : Place → Bool
has_tasks place.Tasks = true
has_tasks place.Irqs = true
has_tasks place.Images = true
has_tasks _ = false

-- an irq line may have been read
abbrev pub has_irqs : Place → Bool
has_irqs place.Irqs = true
has_irqs place.Images = true
has_irqs _ = false

-- what was read has its numbers in their ranges, and its irq lines may follow one another
pub record Sound (p : Progress) : Type 0 where
  pub one_hart : 1 ≤ p.harts
  pub harts : p.harts ≤ 16
  pub layout : IsLayout p.layout
  pub branch : IsBranchWord p.branch
  pub few : length p.tasks ≤ MAX_TASKS
  pub tasks : All IsTask p.tasks
  pub irqs : All (IsIrq (length p.tasks)) p.irqs
  pub order : AllFollow p.irqs
  pub some : has_tasks p.place ≡ true → 0 < length p.tasks
  pub early : has_irqs p.place ≡ false → p.irqs ≡ []

-- how many lines have been read at most: in version 1 there is one less from the first task line on
abbrev pub lines_before : Place → ℕ
lines_before place.Version = 0
lines_before (place.Harts v) = 1
lines_before (place.Layout v) = 2
lines_before place.Branch = 3
lines_before place.FirstTask = 4
lines_before place.Tasks = 4
lines_before place.Irqs = 4
lines_before place.Images = 5

abbrev pub lines_of : Progress → ℕ
lines_of p = lines_before p.place + length p.tasks + length p.irqs

abbrev pub is_done : Place → Bool
is_done place.Images = true
is_done _ = false

-- line n, where the lines before it came to p
abbrev pub step_cut : ℕ → Progress → LineCut → Result (Progress × List ℕ) LineFault
step_cut n p (Line line rest) = row_cut n rest (step p line)
step_cut n p Long = refuse n reason.LongLine
step_cut n p Open = refuse n reason.Cut

-- one more line is read, or refused. After a failed read no whole line is in hand, and nothing was
-- passed over
abbrev pub OneLine : ℕ → Progress → Progress → Option (List ℕ) → Option (List ℕ) → List ℕ
    → Result (Unit {0}) ScheduleFault → Type 0
OneLine line old new text text' hand (Ok _) =
    Of text text' (λ t t'. step_cut line old (line_at t) ≡ Ok (new, t'))
OneLine line old new text text' hand (Err (schedule.Line f)) =
    (f.line ≡ line) × Of text text' (λ t t'. step_cut line old (line_at t) ≡ Err f)
OneLine line old new text text' hand (Err schedule.ReadFault) =
    (line_at hand ≡ Open) × Of text text' (λ t t'. t' ≡ t)
OneLine line old new text text' hand (Err schedule.Memory) = ⊤
