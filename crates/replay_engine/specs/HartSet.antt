-- Harts with an engine of their own that performs commands on them: how commands go on there, and
-- what is read in them.
use Rattle.std.specs.Prelude.{◌≡◌, ℕ, suc, ◌*◌, ◌^◌, ◌<◌, false, List, [], ◌∷◌, ◌++◌, length, Some}
use Rattle.std.specs.Prelude.{None, Result, Ok, Err}
use Rattle.perf_sample.specs.Spelling.{spelling}
use Rattle.perf_sample.specs.declared.sample.Sample.{Sample}
use Rattle.rv_hart.specs.Hart.{HartState}
use Rattle.sched_text.specs.Header.{IsHeader}
use Rattle.sched_text.specs.Rows.{IsCommand}
use Rattle.sched_text.specs.declared.limits.TheConstants.{MAX_STEPS}
use Rattle.sched_text.specs.declared.schedule.Command.{Command}
use Rattle.sched_text.specs.declared.schedule.Command.TheVariants.{Run, Sample as Sampled, Evict}
use Rattle.sched_text.specs.declared.schedule.Command.TheVariants.{End}
use Rattle.sched_text.specs.declared.schedule.Header.{Header}
use Rattle.replay_engine.specs.declared.fault.PerformFault.{PerformFault}
use Rattle.replay_engine.specs.declared.fault.PerformFault.TheVariants.{NoTask, NoHart, NotResident}
use Rattle.replay_engine.specs.declared.fault.PerformFault.TheVariants.{EmptyHart, Write}
use Rattle.replay_engine.specs.Counts.{CountsWithin}
use Rattle.replay_engine.specs.Engine.{EngineState}
use Rattle.replay_engine.specs.Outcome.{IsOutcome, is_write}
use Rattle.replay_engine.specs.Refusals.{command_refusal}
use Rattle.replay_engine.specs.Runs.{spellings, IsCut}
use Rattle.replay_engine.specs.Scheduled.{samples_from, command_samples, AreHartsOf, first_of}
use Rattle.replay_engine.specs.Stands.{StandsFor}
use Rattle.replay_engine.specs.Start.{plan_of, sample_layout}
use Rattle.replay_engine.specs.Tasks.{PlacesAgree}
use Rattle.replay_engine.specs.View.{view_of}

-- where the sample after the last step that was made of a command failed: the command with the
-- steps that were made, and what of it came before the last step
abbrev pub AreMade : Command → Command → List Command → Type 0
AreMade (Run h t n) made before =
    (m : ℕ) × (m < n) × (made ≡ Run h t (suc m)) × (before ≡ Run h t m ∷ [])
AreMade (Sampled t) made before = (made ≡ Sampled t) × (before ≡ [])
AreMade (Evict h) made before = ⊥
AreMade End made before = ⊥

-- a sample of a command after others was cut off: these are the bytes of all samples of the command
-- before it, and a proper prefix of its own, and the harts stand right after its step
pub record StopsAt (h : Header) (images : List (List ℕ)) (cs : List Command) (c : Command)
    (bytes : List ℕ) (harts : List HartState) : Type 0 where
  pub made : Command
  pub before : List Command
  pub parts : AreMade c made before
  pub failed : Sample
  pub is_last : samples_from h images cs (made ∷ [])
      ≡ samples_from h images cs before ++ failed ∷ []
  pub last : List ℕ
  pub cut : IsCut last (spelling (sample_layout h) failed)
  pub are : bytes ≡ spellings (sample_layout h) (samples_from h images cs before) ++ last
  pub harts_are : AreHartsOf h images (cs ++ made ∷ []) harts

-- a command after others was performed; where the harts tell what they hold, these bytes of its
-- samples were read
pub record IsNext {E H : Type 0}
    (follows : Header → List (List ℕ) → List Command → E → H → Type 0) (tells : H → Type 0)
    (h : Header) (images : List (List ℕ)) (cs : List Command) (c : Command) (bytes : List ℕ) (a : H)
    (f : E) (b : H) : Type 0 where
  pub allowed : command_refusal (plan_of h) cs c ≡ None
  pub next : follows h images (cs ++ c ∷ []) f b
  pub told : tells a → tells b
      × (bytes ≡ spellings (sample_layout h) (command_samples h images cs c))

-- it was refused by the commands before it, and nothing was done
pub record IsHeldUp {E H : Type 0}
    (follows : Header → List (List ℕ) → List Command → E → H → Type 0) (tells : H → Type 0)
    (h : Header) (images : List (List ℕ)) (cs : List Command) (c : Command) (bytes : List ℕ) (a : H)
    (f : E) (b : H) (why : PerformFault) : Type 0 where
  pub refused : command_refusal (plan_of h) cs c ≡ Some why
  pub same : follows h images cs f b
  pub told : tells a → tells b
  pub none : bytes ≡ []

-- a sample of it could not be written
pub record IsStopped {H : Type 0} (tells : H → Type 0) (held : H → List HartState) (h : Header)
    (images : List (List ℕ)) (cs : List Command) (c : Command) (bytes : List ℕ) (a b : H)
    : Type 0 where
  pub allowed : command_refusal (plan_of h) cs c ≡ None
  pub told : tells a → tells b × StopsAt h images cs c bytes (held b)

-- how a command goes on after others, by its answer
abbrev pub GoesOn : {E H : Type 0} →
    (Header → List (List ℕ) → List Command → E → H → Type 0) → (H → Type 0) →
    (H → List HartState) → Header → List (List ℕ) → List Command → Command → List ℕ → H → E → H →
    Result (Unit {0}) PerformFault → Type 0
GoesOn follows tells held h images cs c bytes a f b (Ok _) =
    IsNext follows tells h images cs c bytes a f b
GoesOn follows tells held h images cs c bytes a f b (Err NoTask) =
    IsHeldUp follows tells h images cs c bytes a f b NoTask
GoesOn follows tells held h images cs c bytes a f b (Err NoHart) =
    IsHeldUp follows tells h images cs c bytes a f b NoHart
GoesOn follows tells held h images cs c bytes a f b (Err NotResident) =
    IsHeldUp follows tells h images cs c bytes a f b NotResident
GoesOn follows tells held h images cs c bytes a f b (Err EmptyHart) =
    IsHeldUp follows tells h images cs c bytes a f b EmptyHart
GoesOn follows tells held h images cs c bytes a f b (Err Write) =
    IsStopped tells held h images cs c bytes a b

-- the sixteen harts: an engine and harts stand for these commands, of this header and these images
pub record StandsBehind (h : Header) (images : List (List ℕ)) (cs : List Command) (e : EngineState)
    (harts : List HartState) : Type 0 where
  pub header : IsHeader h
  pub plan : e.plan ≡ plan_of h
  pub whole : e.broken ≡ false
  pub places : PlacesAgree e.tasks harts
  pub stands : StandsFor (plan_of h) (first_of h images) cs e.tasks harts
  pub counts : CountsWithin (2 ^ 40 * length cs) (MAX_STEPS * length cs) (MAX_STEPS * length cs)
      (view_of e.tasks harts)

-- the second list is the first with these bytes behind it
abbrev pub Appended : List ℕ → List ℕ → List ℕ → Type 0
Appended a x b = b ≡ a ++ x

-- and a command made the second engine and harts of the first; these bytes were read in it
pub record IsPerformedOn (e : EngineState) (harts : List HartState) (c : Command)
    (r : Result (Unit {0}) PerformFault) (bytes : List ℕ) (f : EngineState)
    (harts' : List HartState) : Type 0 where
  pub is : IsCommand c
  pub plan : f.plan ≡ e.plan
  pub whole : f.broken ≡ is_write r
  pub outcome : IsOutcome Appended [] bytes e.plan e.tasks f.tasks harts harts' c r
