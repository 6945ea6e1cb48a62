-- What a command leaves where engine and harts stand for the commands before it, told from the lone
-- runs alone.
use Rattle.std.specs.Prelude.{◌≡◌, ℕ, suc, ◌<◌, List, [], ◌∷◌, ◌++◌, Some, Result, Ok, Err}
use Rattle.ctr_port.specs.Sink.{GainsPart}
use Rattle.perf_sample.specs.declared.sample.Sample.{Sample}
use Rattle.rv_hart.specs.Hart.{HartState}
use Rattle.sched_text.specs.declared.schedule.Command.{Command}
use Rattle.sched_text.specs.declared.schedule.Command.TheVariants.{Run, Sample as Sampled, Evict}
use Rattle.sched_text.specs.declared.schedule.Command.TheVariants.{End}
use Rattle.replay_engine.specs.declared.fault.PerformFault.{PerformFault}
use Rattle.replay_engine.specs.declared.fault.PerformFault.TheVariants.{NoTask, NoHart, NotResident}
use Rattle.replay_engine.specs.declared.fault.PerformFault.TheVariants.{EmptyHart, Write}
use Rattle.replay_engine.specs.Refusals.{command_refusal}
use Rattle.replay_engine.specs.Runs.{spellings, IsCut}
use Rattle.replay_engine.specs.Stands.{StandsFor, scheduled_of}
use Rattle.replay_engine.specs.Tasks.{TaskState, PresentState}
use Rattle.replay_engine.specs.View.{Plan}

-- they stand for one command more, and the sink gained its samples
pub record StandsForMore {K : Type 0} (gained : K → List ℕ → K → Type 0) (old new : K) (plan : Plan)
    (first : List PresentState) (cs : List Command) (ts : List TaskState) (hs : List HartState)
    (c : Command) : Type 0 where
  pub stands : StandsFor plan first (cs ++ c ∷ []) ts hs
  pub written : gained old (spellings plan.layout (scheduled_of plan first cs c)) new

-- they stand for a run of fewer steps; the sink gained the samples of all steps but the last, and a
-- proper prefix of that of the last
pub record StandsForPart {K : Type 0} (gained : K → List ℕ → K → Type 0) (old new : K) (plan : Plan)
    (first : List PresentState) (cs : List Command) (ts : List TaskState) (hs : List HartState)
    (h t n : ℕ) : Type 0 where
  pub before : ℕ
  pub within : before < n
  pub stands : StandsFor plan first (cs ++ Run h t (suc before) ∷ []) ts hs
  pub next : List Sample
  pub are : scheduled_of plan first cs (Run h t (suc before))
      ≡ scheduled_of plan first cs (Run h t before) ++ next
  pub last : List ℕ
  pub written : gained old (spellings plan.layout (scheduled_of plan first cs (Run h t before))
      ++ last) new
  pub cut : IsCut last (spellings plan.layout next)

-- they stand for a sample too, of which the sink gained a proper prefix
pub record StandsForSample {K : Type 0} (gained : K → List ℕ → K → Type 0) (old new : K)
    (plan : Plan) (first : List PresentState) (cs : List Command) (ts : List TaskState)
    (hs : List HartState) (c : Command)
    : Type 0 where
  pub stands : StandsFor plan first (cs ++ c ∷ []) ts hs
  pub written : GainsPart gained old new (spellings plan.layout (scheduled_of plan first cs c))

-- the sink failed at a sample of the command
abbrev pub StandsCutOff : {K : Type 0} → (K → List ℕ → K → Type 0) → K → K → Plan →
    List PresentState → List Command → List TaskState → List HartState → Command → Type 0
StandsCutOff gained old new plan first cs ts hs (Run h t n) =
    StandsForPart gained old new plan first cs ts hs h t n
StandsCutOff gained old new plan first cs ts hs (Sampled t) =
    StandsForSample gained old new plan first cs ts hs (Sampled t)
StandsCutOff gained old new plan first cs ts hs (Evict h) = ⊥
StandsCutOff gained old new plan first cs ts hs End = ⊥

-- by the answer; a command is refused by the commands before it
abbrev pub StandsAfter : {K : Type 0} → (K → List ℕ → K → Type 0) → K → K → Plan →
    List PresentState → List Command → List TaskState → List HartState → Command →
    Result (Unit {0}) PerformFault → Type 0
StandsAfter gained old new plan first cs ts hs c (Ok _) =
    StandsForMore gained old new plan first cs ts hs c
StandsAfter gained old new plan first cs ts hs c (Err NoTask) = command_refusal plan cs c
    ≡ Some NoTask
StandsAfter gained old new plan first cs ts hs c (Err NoHart) = command_refusal plan cs c
    ≡ Some NoHart
StandsAfter gained old new plan first cs ts hs c (Err NotResident) = command_refusal plan cs c
    ≡ Some NotResident
StandsAfter gained old new plan first cs ts hs c (Err EmptyHart) = command_refusal plan cs c
    ≡ Some EmptyHart
StandsAfter gained old new plan first cs ts hs c (Err Write) =
    StandsCutOff gained old new plan first cs ts hs c
