-- The samples and the harts of a schedule as an engine steps through them, which are those of the
-- lone runs.
use Rattle.std.proofs.Common.{◌≡◌, ap, List}
use Rattle.perf_sample.specs.declared.sample.Sample.{Sample}
use Rattle.replay_engine.specs.HartsAt.{StandingHartsAreAt}
use Rattle.replay_engine.specs.Runs.{spellings}
use Rattle.replay_engine.specs.Scheduled.{SamplesAreLone, HartsAreLone}
use Rattle.replay_engine.specs.Stands.{StandsFor, scheduled_samples}
use Rattle.replay_engine.specs.Start.{plan_of, sample_layout}
use Rattle.replay_engine.specs.Tasks.{TaskState}
use Rattle.rv_hart.specs.Hart.{HartState}
use Rattle.ctrsim_cli.specs.Parts.{first_states}
use Rattle.ctrsim_cli.specs.Schedule.{Schedule, samples_of, output_of, HartsAreOf}

abbrev pub stepped : Schedule → List Sample
stepped s = scheduled_samples (plan_of s.header) (first_states s) s.commands

pub same_samples : SamplesAreLone → (s : Schedule) → stepped s ≡ samples_of s
same_samples lone s = lone s.header s.images s.commands

pub same_output : SamplesAreLone → (s : Schedule) →
    spellings (sample_layout s.header) (stepped s) ≡ output_of s
same_output lone s = ap (spellings (sample_layout s.header)) (same_samples lone s)

pub harts_are_of : HartsAreLone → StandingHartsAreAt → (s : Schedule) (ts : List TaskState)
    (hs : List HartState) → StandsFor (plan_of s.header) (first_states s) s.commands ts hs →
    HartsAreOf s hs
harts_are_of lone at s ts hs stands =
    lone s.header s.images s.commands hs (at (plan_of s.header) (first_states s) s.commands ts hs stands)
