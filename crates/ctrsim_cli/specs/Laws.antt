-- Laws of whole schedules.
use Rattle.std.specs.Prelude.{◌≡◌, ℕ, ◌<◌, ◌≤◌, List, [], ◌∷◌, ◌++◌, length}
use Rattle.std.specs.List.{All}
use Rattle.perf_sample.specs.Spelling.{spelling}
use Rattle.perf_sample.specs.declared.sample.Sample.{Sample}
use Rattle.replay_engine.specs.HartSet.{AreMade}
use Rattle.replay_engine.specs.Runs.{IsCut}
use Rattle.replay_engine.specs.Scheduled.{IsSampleOf}
use Rattle.replay_engine.specs.Start.{sample_layout}
use Rattle.sched_text.specs.declared.schedule.Command.{Command}
use Rattle.ctrsim_cli.specs.Demo.{demo_text, demo_schedule}
use Rattle.ctrsim_cli.specs.Says.{IsAcceptedAs}
use Rattle.ctrsim_cli.specs.Schedule.{Schedule, IsSchedule, samples_of, output_of, followed_by}

-- a text is accepted as one schedule
abbrev pub AcceptedAsOne : Type 0
AcceptedAsOne = (text : List ℕ) (s t : Schedule) → IsAcceptedAs text s → IsAcceptedAs text t → s ≡ t

-- a sample that one of the commands of a schedule gives, after those before it
pub record IsScheduledSample (s : Schedule) (x : Sample) : Type 0 where
  pub before : List Command
  pub command : Command
  pub later : List Command
  pub are : s.commands ≡ before ++ command ∷ later
  pub is : IsSampleOf s.header s.images before command x

-- each sample of a schedule is that of the lone run of its command's task, at a count that the
-- command gives; where the software of the task wrote neither the pointer nor an entry since its
-- buffer was emptied, it shows what the run leaves unreturned
abbrev pub SamplesAreOfLoneRuns : Type 0
SamplesAreOfLoneRuns = (s : Schedule) → IsSchedule s → All (IsScheduledSample s) (samples_of s)

-- what was written where a sample of a command failed is a proper prefix of the output of every
-- schedule that goes on with this command
abbrev pub WrittenIsPrefix : Type 0
WrittenIsPrefix = (s : Schedule) (c made : Command) (before rest : List Command) (failed : Sample)
    (last : List ℕ) → AreMade c made before →
    samples_of (followed_by s (made ∷ [])) ≡ samples_of (followed_by s before) ++ failed ∷ [] →
    IsCut last (spelling (sample_layout s.header) failed) →
    (more : List ℕ) × (0 < length more) × (output_of (followed_by s (c ∷ rest))
    ≡ (output_of (followed_by s before) ++ last) ++ more)

-- the text of `demo` is accepted, as the schedule that it performs
abbrev pub DemoIsAccepted : Type 0
DemoIsAccepted = (n : ℕ) → n ≤ 100000 → IsAcceptedAs (demo_text n) (demo_schedule n)
