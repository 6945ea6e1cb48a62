-- What a single line says, by its words alone. The rules come in their order: NotWord, NotNumber,
-- Range.
use Rattle.std.specs.Prelude.{◌≡◌, ℕ, ◌-◌, ◌%◌, ◌^◌, ◌≤◌, Bool, ◌&&◌, if◌then◌else◌, nat_eq, nat_le}
use Rattle.std.specs.Prelude.{List, [], ◌∷◌, length, Option, Some, None, Result, Ok, Err, codes, ⊤}
use Rattle.std.specs.List.{list_any}
use Rattle.std.specs.Str.{bytes_eq}
use Rattle.sched_text.specs.Lines.{words, word}
use Rattle.sched_text.specs.Numbers.{number, kept}
use Rattle.perf_sample.specs.Layout.{is_layout, is_branch_word}
use Rattle.sched_text.specs.declared.faults.Reason.{Reason}
use Rattle.sched_text.specs.declared.faults.Reason.TheVariants as reason
use Rattle.sched_text.specs.declared.rows.TaskNumbers.{TaskNumbers}
use Rattle.sched_text.specs.declared.rows.IrqWords.{IrqWords}
use Rattle.sched_text.specs.declared.rows.Version.{Version}
use Rattle.sched_text.specs.declared.rows.Version.TheVariants as version
use Rattle.sched_text.specs.declared.schedule.TaskLine.{TaskLine}
use Rattle.sched_text.specs.declared.schedule.Command.{Command}
use Rattle.sched_text.specs.declared.schedule.Command.TheVariants as command
use Rattle.sched_text.specs.declared.limits.TheConstants.{MAX_MEMORY, MAX_STEPS, MAX_IRQ_STEP}

-- the line has this first word, and so many words
abbrev pub has_form : List ℕ → List ℕ → ℕ → Bool
has_form line first count = nat_eq (length (words line)) count && bytes_eq (word line 0) first

-- one rule after another: the first that applies refuses
infixl 10 ◌>>=◌
abbrev pub ◌>>=◌ : {A B : Type 0} → Result A Reason → (A → Result B Reason) → Result B Reason
Ok x >>= next = next x
Err why >>= next = Err why

abbrev pub or_not_number : Option ℕ → Result ℕ Reason
or_not_number None = Err reason.NotNumber
or_not_number (Some n) = Ok n

abbrev pub decimal : List ℕ → ℕ → Result ℕ Reason
decimal line place = or_not_number (number 10 (word line place))

-- the number of an answer
abbrev pub number_of : {A : Type 0} → Result (ℕ × A) Reason → Result ℕ Reason
number_of (Ok r) = Ok r.0
number_of (Err why) = Err why

abbrev pub hexadecimal : List ℕ → ℕ → Result ℕ Reason
hexadecimal line place = or_not_number (number 16 (word line place))

-- ctr-schedule VERSION
abbrev pub version_of : List ℕ → Result Version Reason
version_of line =
    if has_form line (codes "ctr-schedule") 2 then
    (do
      n ← decimal line 1
      if nat_eq n 1 then Ok version.One
          else if nat_eq n 2 then Ok version.Two
          else Err reason.Range)
    else Err reason.NotWord

-- harts N
abbrev pub harts_of : List ℕ → Result ℕ Reason
harts_of line =
    if has_form line (codes "harts") 2 then
    (do
      harts ← decimal line 1
      if nat_le 1 harts && nat_le harts 16 then Ok harts else Err reason.Range)
    else Err reason.NotWord

-- layout HEX
abbrev pub layout_of : List ℕ → Result ℕ Reason
layout_of line =
    if has_form line (codes "layout") 2 then
    (do
      bits ← hexadecimal line 1
      if nat_le bits (2 ^ 64 - 1) && is_layout bits then Ok bits else Err reason.Range)
    else Err reason.NotWord

-- branch HEX
abbrev pub branch_of : List ℕ → Result ℕ Reason
branch_of line =
    if has_form line (codes "branch") 2 then
    (do
      bits ← hexadecimal line 1
      if is_branch_word bits then Ok bits else Err reason.Range)
    else Err reason.NotWord

-- the ranges of a task line
abbrev pub task_in_range : TaskNumbers → Bool
task_in_range n =
    nat_le 4 n.mem && nat_le n.mem MAX_MEMORY && nat_eq (n.mem % 4) 0 && nat_le n.image n.mem
    && nat_le n.depth 4 && nat_le n.mctrctl (2 ^ 64 - 1) && nat_le n.vsctrctl (2 ^ 64 - 1)
    && nat_le n.period MAX_STEPS

abbrev pub task_numbers : List ℕ → Result TaskNumbers Reason
task_numbers line = do
  image ← decimal line 1
  mem ← decimal line 2
  depth ← decimal line 3
  mctrctl ← hexadecimal line 4
  vsctrctl ← hexadecimal line 5
  period ← decimal line 6
  Ok (record {
    image = image;
    mem = mem;
    depth = depth;
    mctrctl = mctrctl;
    vsctrctl = vsctrctl;
    period = period;
  })

abbrev pub task_line : TaskNumbers → TaskLine
task_line n = record {
  image = n.image;
  mem = n.mem;
  depth = n.depth;
  mctrctl = n.mctrctl;
  vsctrctl = n.vsctrctl;
  period = n.period;
}

-- task IMAGE MEM DEPTH MCTRCTL VSCTRCTL PERIOD
abbrev pub task_of : List ℕ → Result TaskLine Reason
task_of line =
    if has_form line (codes "task") 7 then
    (do
      n ← task_numbers line
      if task_in_range n then Ok (task_line n) else Err reason.Range)
    else Err reason.NotWord

-- a task line whose numbers are in their ranges
pub record IsTask (t : TaskLine) : Type 0 where
  pub some : 4 ≤ t.mem
  pub most : t.mem ≤ MAX_MEMORY
  pub words : t.mem % 4 ≡ 0
  pub image : t.image ≤ t.mem
  pub depth : t.depth ≤ 4
  pub period : t.period ≤ MAX_STEPS

-- the numbers of the interrupts (RISC-V Privileged Architecture, mip)
abbrev pub interrupt_numbers : List ℕ
interrupt_numbers = 1 ∷ 2 ∷ 3 ∷ 5 ∷ 6 ∷ 7 ∷ 9 ∷ 10 ∷ 11 ∷ 13 ∷ []

abbrev pub is_cause : ℕ → Bool
is_cause c = list_any (λ n. nat_eq n c) interrupt_numbers

-- irq TASK STEP CAUSE
abbrev pub irq_of : List ℕ → Result IrqWords Reason
irq_of line =
    if has_form line (codes "irq") 4 then
    (do
      task ← decimal line 1
      step ← decimal line 2
      cause ← decimal line 3
      if nat_le step MAX_IRQ_STEP && is_cause cause then
          Ok (record { task = kept task; step = step; cause = cause })
          else Err reason.Range)
    else Err reason.NotWord

-- run HART TASK STEPS
abbrev pub run_of : List ℕ → Result Command Reason
run_of line = do
  hart ← decimal line 1
  task ← decimal line 2
  steps ← decimal line 3
  if nat_le steps MAX_STEPS then Ok (command.Run (kept hart) (kept task) steps)
      else Err reason.Range

-- a command whose number of steps is in its range
abbrev pub IsCommand : Command → Type 0
IsCommand (command.Run hart task steps) = steps ≤ MAX_STEPS
IsCommand (command.Sample task) = ⊤
IsCommand (command.Evict hart) = ⊤
IsCommand command.End = ⊤

-- run HART TASK STEPS, sample TASK, evict HART, or end
abbrev pub command_of : List ℕ → Result Command Reason
command_of line =
    if has_form line (codes "run") 4 then run_of line
    else if has_form line (codes "sample") 2 then
    (do
      task ← decimal line 1
      Ok (command.Sample (kept task)))
    else if has_form line (codes "evict") 2 then
    (do
      hart ← decimal line 1
      Ok (command.Evict (kept hart)))
    else if has_form line (codes "end") 1 then Ok command.End
    else Err reason.NotWord
