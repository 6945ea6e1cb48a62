-- What a whole schedule comes to: its samples as bytes, and the harts.
use Rattle.std.specs.Prelude.{◌≡◌, ℕ, List, [], ◌++◌, length}
use Rattle.std.specs.List.{All}
use Rattle.perf_sample.specs.declared.sample.Sample.{Sample}
use Rattle.replay_engine.specs.Breaks.{AreAllowed}
use Rattle.replay_engine.specs.Runs.{spellings}
use Rattle.replay_engine.specs.Scheduled.{samples_from, AreHartsOf}
use Rattle.replay_engine.specs.Start.{plan_of, sample_layout}
use Rattle.rv_hart.specs.Facts.{AreBytes}
use Rattle.rv_hart.specs.Hart.{HartState}
use Rattle.sched_text.specs.Header.{IsHeader}
use Rattle.sched_text.specs.declared.schedule.Command.{Command}
use Rattle.sched_text.specs.declared.schedule.Header.{Header}

-- a header, the image of each of its tasks, in their order, and the commands before `end`
pub record Schedule : Type 0 where
  pub header : Header
  pub images : List (List ℕ)
  pub commands : List Command

-- the header is one that is accepted, there is an image of bytes for each of its tasks, and each
-- command may be performed after those before it
pub record IsSchedule (s : Schedule) : Type 0 where
  pub header : IsHeader s.header
  pub size : length s.images ≡ length s.header.tasks
  pub bytes : All AreBytes s.images
  pub allowed : AreAllowed (plan_of s.header) s.commands

-- all scheduled samples, in order: those of `sample` lines and those of periods, each that of its
-- task's lone run
abbrev pub samples_of : Schedule → List Sample
samples_of s = samples_from s.header s.images [] s.commands

-- as bytes
abbrev pub output_of : Schedule → List ℕ
output_of s = spellings (sample_layout s.header) (samples_of s)

-- the sixteen harts are what the commands and the lone runs make of them
abbrev pub HartsAreOf : Schedule → List HartState → Type 0
HartsAreOf s harts = AreHartsOf s.header s.images s.commands harts

-- the schedule with these commands more
abbrev pub followed_by : Schedule → List Command → Schedule
followed_by s cs = record s { commands = s.commands ++ cs }
