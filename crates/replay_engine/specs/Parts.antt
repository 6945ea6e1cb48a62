-- What the parts of a command leave of one task and one hart. These tie private functions together.
use Rattle.std.specs.Prelude.{◌≡◌, ℕ, suc, ◌+◌, ◌-◌, ◌%◌, ◌^◌, ◌<◌, cond, nat_eq, List, ◌++◌}
use Rattle.std.specs.Prelude.{slice_get, slice_set, Some}
use Rattle.ctr_port.specs.Sink.{GainsPart}
use Rattle.perf_sample.specs.Spelling.{spelling}
use Rattle.rv_hart.specs.Hart.{HartState}
use Rattle.rv_hart.specs.Task.{Irq}
use Rattle.replay_engine.specs.declared.sampling.SampleContext.{SampleContext}
use Rattle.replay_engine.specs.Runs.{present_after, samples_of_steps, due_sample, spellings}
use Rattle.replay_engine.specs.Runs.{sampling_costs, IsCut}
use Rattle.replay_engine.specs.Samples.{sample_of, sample_cost}
use Rattle.replay_engine.specs.Tasks.{TaskState, state_on}

-- the first count after so many steps that asks for a sample; without a period, one that no count
-- reaches
abbrev pub next_due : ℕ → ℕ → ℕ
next_due period steps = cond (nat_eq period 0) (2 ^ 64 - 1) (steps + (period - steps % period))

-- so many steps were made on a hart: the task is as they make it, the hart counted them and the
-- accesses of their samples, and all else is as before
pub record StepsMade (y y' : HartState) (x x' : TaskState) (s : SampleContext) (irqs : List Irq) (n : ℕ)
    : Type 0 where
  pub seat : state_on y' x' ≡ present_after irqs n (state_on y x)
  pub steps : y'.steps ≡ y.steps + n
  pub accesses : y'.accesses ≡ y.accesses + sampling_costs s irqs n (state_on y x)
  pub resident : y'.resident ≡ y.resident
  pub count : x'.steps ≡ x.steps + n
  pub place : x'.place ≡ x.place
  pub core : x'.core ≡ x.core
  pub area : x'.area ≡ x.area

pub record RunMade {K : Type 0} (gained : K → List ℕ → K → Type 0) (old new : K) (y y' : HartState)
    (x x' : TaskState) (s : SampleContext) (irqs : List Irq) (n : ℕ) : Type 0 where
  pub stepped : StepsMade y y' x x' s irqs n
  pub written : gained old (spellings s.layout (samples_of_steps s irqs n (state_on y x))) new

-- some of the steps were made, and the sample after the last of them was cut short
pub record RunCut {K : Type 0} (gained : K → List ℕ → K → Type 0) (old new : K) (y y' : HartState)
    (x x' : TaskState) (s : SampleContext) (irqs : List Irq) (n : ℕ) : Type 0 where
  pub before : ℕ
  pub within : before < n
  pub stepped : StepsMade y y' x x' s irqs (suc before)
  pub last : List ℕ
  pub written : gained old (spellings s.layout (samples_of_steps s irqs before (state_on y x))
      ++ last) new
  pub cut : IsCut last
      (spellings s.layout (due_sample s (present_after irqs (suc before) (state_on y x))))

-- the same among all tasks and harts: of the task and the hart of a sample, this was made
pub record Among (ts ts' : List TaskState) (hs hs' : List HartState) (s : SampleContext)
    (Made : HartState → HartState → TaskState → TaskState → Type 0) : Type 0 where
  pub x : TaskState
  pub x' : TaskState
  pub y : HartState
  pub y' : HartState
  pub task : slice_get ts s.task ≡ Some x
  pub hart : slice_get hs s.hart ≡ Some y
  pub tasks : ts' ≡ slice_set ts s.task x'
  pub harts : hs' ≡ slice_set hs s.hart y'
  pub made : Made y y' x x'

abbrev pub RunAmong : {K : Type 0} → (K → List ℕ → K → Type 0) → K → K → List TaskState →
    List TaskState → List HartState → List HartState → SampleContext → List Irq → ℕ → Type 0
RunAmong gained old new ts ts' hs hs' s irqs n =
    Among ts ts' hs hs' s (λ y y' x x'. RunMade gained old new y y' x x' s irqs n)

abbrev pub CutAmong : {K : Type 0} → (K → List ℕ → K → Type 0) → K → K → List TaskState →
    List TaskState → List HartState → List HartState → SampleContext → List Irq → ℕ → Type 0
CutAmong gained old new ts ts' hs hs' s irqs n =
    Among ts ts' hs hs' s (λ y y' x x'. RunCut gained old new y y' x x' s irqs n)

-- the accesses of a sample were made, and its bytes, or a proper prefix of them, were written
pub record Taken (ts : List TaskState) (hs hs' : List HartState) (s : SampleContext)
    (Written : List ℕ → Type 0) : Type 0 where
  pub x : TaskState
  pub y : HartState
  pub task : slice_get ts s.task ≡ Some x
  pub hart : slice_get hs s.hart ≡ Some y
  pub harts : hs' ≡ slice_set hs s.hart
      (record y { accesses = y.accesses + sample_cost s.layout (state_on y x) })
  pub written : Written (spelling s.layout (sample_of s (state_on y x)))

abbrev pub SampleAmong : {K : Type 0} → (K → List ℕ → K → Type 0) → K → K → List TaskState →
    List HartState → List HartState → SampleContext → Type 0
SampleAmong gained old new ts hs hs' s = Taken ts hs hs' s (λ bytes. gained old bytes new)

abbrev pub SampleCutAmong : {K : Type 0} → (K → List ℕ → K → Type 0) → K → K → List TaskState →
    List HartState → List HartState → SampleContext → Type 0
SampleCutAmong gained old new ts hs hs' s = Taken ts hs hs' s (GainsPart gained old new)
