-- The samples and the harts of a schedule, told of its header, its images and the lone runs of its
-- tasks alone.
use Rattle.std.specs.Prelude.{◌≡◌, ℕ, ◌+◌, false, cond, nat_eq, List, [], ◌∷◌, ◌++◌, length}
use Rattle.std.specs.Prelude.{map, slice_get, Option, Some, None}
use Rattle.std.specs.List.{All, filter, list_any, range_with_len, sum_by}
use Rattle.ctr_csrs.specs.Depths.{entries_of}
use Rattle.perf_sample.specs.declared.sample.Sample.{Sample}
use Rattle.rv_hart.specs.Facts.{AreBytes}
use Rattle.rv_hart.specs.Hart.{HartState, fresh_hart}
use Rattle.rv_hart.specs.Lone.{RunState, lone_run}
use Rattle.rv_hart.specs.Task.{Task}
use Rattle.ctr_buffer.specs.Visible.{IsUnwritten}
use Rattle.sched_text.specs.Header.{IsHeader}
use Rattle.sched_text.specs.declared.schedule.Command.{Command}
use Rattle.sched_text.specs.declared.schedule.Command.TheVariants.{Run, Sample as Sampled, Evict}
use Rattle.sched_text.specs.declared.schedule.Command.TheVariants.{End}
use Rattle.sched_text.specs.declared.schedule.Header.{Header}
use Rattle.sched_text.specs.declared.schedule.TaskLine.{TaskLine}
use Rattle.replay_engine.specs.HartsAt.{AreAt}
use Rattle.replay_engine.specs.Runs.{is_due}
use Rattle.replay_engine.specs.Samples.{sampling_cost}
use Rattle.replay_engine.specs.Stands.{own_steps, steps_on, place_after, resident_after, leaving}
use Rattle.replay_engine.specs.Stands.{bringing, names, scheduled_samples}
use Rattle.replay_engine.specs.Start.{first_present, irqs_of, lone_sample_of, plan_of}
use Rattle.replay_engine.specs.Start.{sample_layout, task_of_line, tasks_of_lines}
use Rattle.replay_engine.specs.Tasks.{PresentState}
use Rattle.replay_engine.specs.View.{is_at}
use Rattle.replay_engine.specs.Visible.{GivesAt, ShowsVisible}

-- what is told of a task's line and its image, where both are there
abbrev pub of_both : {A : Type 0} → A → (TaskLine → List ℕ → A) → Option TaskLine →
    Option (List ℕ) → A
of_both none told (Some line) (Some image) = told line image
of_both none told (Some line) None = none
of_both none told None image = none

abbrev pub of_task : {A : Type 0} → Header → List (List ℕ) → ℕ → A → (TaskLine → List ℕ → A) → A
of_task h images t none told = of_both none told (slice_get h.tasks t) (slice_get images t)

-- task t on a hart of its own, which knows of no other, after so many steps
abbrev pub lone_task : Header → ℕ → TaskLine → List ℕ → Task
lone_task h t line image = task_of_line line image (irqs_of t h.irqs)

abbrev pub lone_run_of : Header → ℕ → TaskLine → List ℕ → ℕ → RunState
lone_run_of h t line image n = lone_run (lone_task h t line image) n

-- of the next n own counts of a task after the first `own`, the multiples of its period
abbrev pub due_counts : TaskLine → ℕ → ℕ → List ℕ
due_counts line own n = filter (is_due line.period) (range_with_len (own + 1) n)

-- the one sample of a task where it is on a hart
abbrev pub sample_where : Option ℕ → (ℕ → Sample) → List Sample
sample_where None told = []
sample_where (Some g) told = told g ∷ []

-- the samples of a command after the commands before it: a run on hart g gives those of the task's
-- lone run at the counts that are due, and `sample` the one at the task's own count
abbrev pub command_samples : Header → List (List ℕ) → List Command → Command → List Sample
command_samples h images before (Run g t n) = of_task h images t []
    (λ line image. map (λ k. lone_sample_of h line image t k g)
    (due_counts line (own_steps before t) n))
command_samples h images before (Sampled t) = of_task h images t []
    (λ line image. sample_where (place_after before t)
    (λ g. lone_sample_of h line image t (own_steps before t) g))
command_samples h images before (Evict g) = []
command_samples h images before End = []

-- those of commands after others, in their order
abbrev pub samples_from : Header → List (List ℕ) → List Command → List Command → List Sample
samples_from h images before [] = []
samples_from h images before (c ∷ cs) =
    command_samples h images before c ++ samples_from h images (before ++ c ∷ []) cs

-- the number of entries of a task's record buffer after commands, in its lone run
abbrev pub depth_in : RunState → ℕ
depth_in r = entries_of r.state.unit.stack.depth

abbrev pub depth_after : Header → List (List ℕ) → List Command → ℕ → ℕ
depth_after h images cs t = of_task h images t 0
    (λ line image. depth_in (lone_run_of h t line image (own_steps cs t)))

-- the accesses of the samples of a run
abbrev pub run_accesses : Header → List (List ℕ) → List Command → ℕ → ℕ → ℕ
run_accesses h images before t n = of_task h images t 0
    (λ line image. sum_by
    (λ k. sampling_cost (sample_layout h) (depth_in (lone_run_of h t line image k)))
    (due_counts line (own_steps before t) n))

-- the accesses that a command makes at hart k, after the commands before it
abbrev pub command_accesses : Header → List (List ℕ) → List Command → Command → ℕ → ℕ
command_accesses h images before (Run g t n) k =
    bringing (depth_after h images before) (place_after before t) (resident_after before g) t g k
    + cond (nat_eq k g) (run_accesses h images before t n) 0
command_accesses h images before (Sampled t) k = cond (is_at (place_after before t) k)
    (sampling_cost (sample_layout h) (depth_after h images before t)) 0
command_accesses h images before (Evict g) k =
    cond (nat_eq k g) (leaving (depth_after h images before) (resident_after before g)) 0
command_accesses h images before End k = 0

abbrev pub accesses_from : Header → List (List ℕ) → List Command → List Command → ℕ → ℕ
accesses_from h images before [] k = 0
accesses_from h images before (c ∷ cs) k =
    command_accesses h images before c k + accesses_from h images (before ++ c ∷ []) cs k

-- hart k after commands: its steps, its resident, and the accesses of a monitor; a hart with a
-- resident has the core and the records of the resident's lone run, at its own count; and a hart
-- that no command named has done nothing
pub record IsHartOf (h : Header) (images : List (List ℕ)) (cs : List Command) (k : ℕ)
    (y : HartState) : Type 0 where
  pub steps : y.steps ≡ steps_on cs k
  pub resident : y.resident ≡ resident_after cs k
  pub accesses : y.accesses ≡ accesses_from h images [] cs k
  pub core : (t : ℕ) (line : TaskLine) (image : List ℕ) → resident_after cs k ≡ Some t →
      slice_get h.tasks t ≡ Some line → slice_get images t ≡ Some image →
      y.core ≡ (lone_run_of h t line image (own_steps cs t)).state.core
  pub unit : (t : ℕ) (line : TaskLine) (image : List ℕ) → resident_after cs k ≡ Some t →
      slice_get h.tasks t ≡ Some line → slice_get images t ≡ Some image →
      y.unit ≡ (lone_run_of h t line image (own_steps cs t)).state.unit
  pub unnamed : list_any (names k) cs ≡ false → y ≡ fresh_hart

pub record AreHartsOf (h : Header) (images : List (List ℕ)) (cs : List Command)
    (hs : List HartState) : Type 0 where
  pub sixteen : length hs ≡ 16
  pub each : (k : ℕ) (y : HartState) → slice_get hs k ≡ Some y → IsHartOf h images cs k y

-- a sample of a command after others: the command's task, at one of the counts that it gives, with
-- the hart's number. Where the task's software wrote neither the pointer nor an entry since its
-- buffer was emptied, it shows the transfers that the lone run leaves unreturned
pub record IsSampleOf (h : Header) (images : List (List ℕ)) (before : List Command) (c : Command)
    (x : Sample) : Type 0 where
  pub number : ℕ
  pub hart : ℕ
  pub steps : ℕ
  pub line : TaskLine
  pub image : List ℕ
  pub given : GivesAt before c number hart steps
  pub is_line : slice_get h.tasks number ≡ Some line
  pub is_image : slice_get images number ≡ Some image
  pub is : x ≡ lone_sample_of h line image number steps hart
  pub shows : IsUnwritten (lone_run_of h number line image steps).history →
      ShowsVisible (lone_run_of h number line image steps).history x

-- the states that the lone runs of the tasks begin with
abbrev pub first_of : Header → List (List ℕ) → List PresentState
first_of h images = map first_present (tasks_of_lines 0 h.tasks images h.irqs)

-- the samples of commands as an engine gives them are those of the lone runs
abbrev pub SamplesAreLone : Type 0
SamplesAreLone = (h : Header) (images : List (List ℕ)) (cs : List Command) →
    scheduled_samples (plan_of h) (first_of h images) cs ≡ samples_from h images [] cs

-- and its harts are what the commands and the lone runs make of them
abbrev pub HartsAreLone : Type 0
HartsAreLone = (h : Header) (images : List (List ℕ)) (cs : List Command) (hs : List HartState) →
    AreAt (plan_of h) (first_of h images) cs hs → AreHartsOf h images cs hs

-- of an accepted header and images of bytes each sample names its task, its hart and its count
abbrev pub SamplesAreGiven : Type 0
SamplesAreGiven = (h : Header) (images : List (List ℕ)) (before : List Command) (c : Command) →
    IsHeader h → All AreBytes images →
    All (IsSampleOf h images before c) (command_samples h images before c)
