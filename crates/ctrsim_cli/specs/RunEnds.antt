-- What holds when the word `run` was followed, by the fault: the headline.
use Rattle.std.specs.Prelude.{◌≡◌, ◌⊎◌, ℕ, List, [], ◌∷◌, ◌++◌, Option, Some, None}
use Rattle.ctr_port.specs.InHand.{Of}
use Rattle.perf_sample.specs.Spelling.{spelling}
use Rattle.perf_sample.specs.declared.sample.Sample.{Sample}
use Rattle.replay_engine.specs.HartSet.{AreMade}
use Rattle.replay_engine.specs.Runs.{IsCut}
use Rattle.replay_engine.specs.Start.{sample_layout}
use Rattle.rv_hart.specs.Hart.{HartState, fresh_harts}
use Rattle.sched_text.specs.declared.faults.LineFault.{LineFault}
use Rattle.sched_text.specs.declared.schedule.Command.{Command}
use Rattle.ctrsim_cli.specs.declared.fault.Fault.{Fault}
use Rattle.ctrsim_cli.specs.declared.fault.Fault.TheVariants.{ReadFault, WriteFault, Line, Memory}
use Rattle.ctrsim_cli.specs.Says.{IsAcceptedAs, IsRefusedAfter, IsRefusedBefore, IsTakenTo}
use Rattle.ctrsim_cli.specs.Says.{IsCutBefore, IsCutAfter, Took}
use Rattle.ctrsim_cli.specs.Schedule.{Schedule, IsSchedule, samples_of, output_of, HartsAreOf}
use Rattle.ctrsim_cli.specs.Schedule.{followed_by}

-- the sink gained the bytes of all samples of the schedule, and nothing else; and the harts are
-- what its commands make of them
pub record IsDone {K : Type 0} (gained : K → List ℕ → K → Type 0) (old new : K)
    (harts : List HartState) (s : Schedule) : Type 0 where
  pub is : IsSchedule s
  pub written : gained old (output_of s) new
  pub harts_are : HartsAreOf s harts

-- nothing was written, and no hart did anything
pub record Nothing {K : Type 0} (gained : K → List ℕ → K → Type 0) (old new : K)
    (harts : List HartState) : Type 0 where
  pub written : gained old [] new
  pub harts_are : harts ≡ fresh_harts

-- all that was left is accepted, and was read and performed
pub record AllPerformed {K : Type 0} (left left' : Option (List ℕ))
    (gained : K → List ℕ → K → Type 0) (old new : K) (harts : List HartState) : Type 0 where
  pub schedule : Schedule
  pub done : IsDone gained old new harts schedule
  pub text : Of left left' (λ b b'. (b' ≡ []) × IsAcceptedAs b schedule)

-- the commands before the refused line were performed
pub record RefusedAfter {K : Type 0} (left left' : Option (List ℕ))
    (gained : K → List ℕ → K → Type 0) (old new : K) (harts : List HartState) (f : LineFault)
    : Type 0 where
  pub schedule : Schedule
  pub done : IsDone gained old new harts schedule
  pub text : Of left left' (λ b b'. IsRefusedAfter b schedule f)

-- the refused line comes before the first command
pub record RefusedBefore {K : Type 0} (left left' : Option (List ℕ))
    (gained : K → List ℕ → K → Type 0) (old new : K) (harts : List HartState) (f : LineFault)
    : Type 0 where
  pub nothing : Nothing gained old new harts
  pub text : Of left left' (λ b b'. IsRefusedBefore b f)

-- a read failed, and the commands that are whole in the bytes taken were performed
pub record CutAfter {K : Type 0} (left left' : Option (List ℕ))
    (gained : K → List ℕ → K → Type 0) (old new : K) (harts : List HartState) : Type 0 where
  pub schedule : Schedule
  pub done : IsDone gained old new harts schedule
  pub text : Of left left' (Took (λ t. IsCutAfter t schedule))

-- a read failed before the first command
pub record CutBefore {K : Type 0} (left left' : Option (List ℕ))
    (gained : K → List ℕ → K → Type 0) (old new : K) (harts : List HartState) : Type 0 where
  pub nothing : Nothing gained old new harts
  pub text : Of left left' (Took IsCutBefore)

-- a sample of a command after those of the schedule could not be written: the sink gained the bytes
-- of all samples before it, and a proper prefix of its own; and the harts stand right after its
-- step
pub record IsCutOff {K : Type 0} (gained : K → List ℕ → K → Type 0) (old new : K)
    (harts : List HartState) (s : Schedule) (c : Command) : Type 0 where
  pub is : IsSchedule s
  pub made : Command
  pub before : List Command
  pub parts : AreMade c made before
  pub failed : Sample
  pub is_last : samples_of (followed_by s (made ∷ []))
      ≡ samples_of (followed_by s before) ++ failed ∷ []
  pub last : List ℕ
  pub cut : IsCut last (spelling (sample_layout s.header) failed)
  pub written : gained old (output_of (followed_by s before) ++ last) new
  pub harts_are : HartsAreOf (followed_by s (made ∷ [])) harts

pub record WriteFailed {K : Type 0} (left left' : Option (List ℕ))
    (gained : K → List ℕ → K → Type 0) (old new : K) (harts : List HartState) : Type 0 where
  pub schedule : Schedule
  pub command : Command
  pub cut_off : IsCutOff gained old new harts schedule command
  pub text : Of left left' (λ b b'. IsTakenTo b b' schedule command)

-- by the fault of the call
abbrev pub RunEnds : {K : Type 0} → Option (List ℕ) → Option (List ℕ)
    → (K → List ℕ → K → Type 0) → K → K → List HartState → Option Fault → Type 0
RunEnds left left' gained old new harts None = AllPerformed left left' gained old new harts
RunEnds left left' gained old new harts (Some (Line f)) =
    RefusedBefore left left' gained old new harts f
    ⊎ RefusedAfter left left' gained old new harts f
RunEnds left left' gained old new harts (Some ReadFault) =
    CutBefore left left' gained old new harts ⊎ CutAfter left left' gained old new harts
RunEnds left left' gained old new harts (Some WriteFault) =
    WriteFailed left left' gained old new harts
RunEnds left left' gained old new harts (Some Memory) = Nothing gained old new harts
RunEnds left left' gained old new harts (Some _) = ⊥
