-- What a call does, by what its words ask for.
use Rattle.std.specs.Prelude.{◌≡◌, ◌⊎◌, ℕ, ◌≤◌, List, length, Option, Some, None, Result, ⊤}
use Rattle.perf_sample.specs.declared.limits.TheConstants.{MAX_SAMPLES}
use Rattle.perf_sample.specs.declared.sample.Sample.{Sample}
use Rattle.replay_engine.specs.Breaks.{IsAccepted, ScheduleBreak}
use Rattle.replay_engine.specs.declared.fault.PerformFault.{PerformFault}
use Rattle.rv_hart.specs.Hart.{HartState}
use Rattle.sched_text.specs.declared.faults.LineFault.{LineFault}
use Rattle.sched_text.specs.declared.schedule.Command.{Command}
use Rattle.ctrsim_cli.specs.Demo.{DemoEnds}
use Rattle.ctrsim_cli.specs.OnHarts.{ReadOnHarts, CountedOnHarts}
use Rattle.ctrsim_cli.specs.RunEnds.{RunEnds}
use Rattle.ctrsim_cli.specs.ShowEnds.{ShowEnds, ShowsBytes}
use Rattle.ctrsim_cli.specs.Showing.{AreSpelled, joined}
use Rattle.ctrsim_cli.specs.declared.fault.Fault.{Fault}
use Rattle.ctrsim_cli.specs.declared.fault.Fault.TheVariants.{Line, Memory}
use Rattle.ctrsim_cli.specs.declared.words.Word.{Word}
use Rattle.ctrsim_cli.specs.declared.words.Word.TheVariants.{Run, Show, Demo}

-- what was read and written, by the fault, and what the harts hold where they tell it
abbrev pub Does : {K : Type 0} → Word → Type 0 → Option (List ℕ) → Option (List ℕ) →
    (K → List ℕ → K → Type 0) → K → K → List HartState → Option Fault → Type 0
Does Run tells left left' gained old new harts fault =
    tells → RunEnds left left' gained old new harts fault
Does (Show layout) tells left left' gained old new harts fault =
    ShowEnds gained layout left left' old new fault
    × ((bytes : List ℕ) → left ≡ Some bytes → ShowsBytes gained layout bytes left' old new fault)
Does (Demo turns) tells left left' gained old new harts fault =
    tells → DemoEnds gained old new harts turns fault

-- whatever the harts are, what was done and read there
abbrev pub DoesOnHarts : {E H K : Type 0} →
    (E → H → Command → Result (Unit {0}) PerformFault → List ℕ → E → H → Type 0) → Word →
    (K → List ℕ → K → Type 0) → H → H → K → K → Option Fault → Type 0
DoesOnHarts performed Run gained a b old new fault = ReadOnHarts performed gained a b old new
DoesOnHarts performed (Show layout) gained a b old new fault = b ≡ a
DoesOnHarts performed (Demo turns) gained a b old new fault =
    CountedOnHarts performed gained turns a b old new fault

-- words that read nothing leave the source as it is
abbrev pub LeavesSource : {S : Type 0} → Word → S → S → Type 0
LeavesSource Run old new = ⊤
LeavesSource (Show layout) old new = ⊤
LeavesSource (Demo turns) old new = new ≡ old

-- an accepted text comes to no fault, and one that breaks to its first refused line, but for want
-- of memory
pub record RunCompletes (left : Option (List ℕ)) (fault : Option Fault) : Type 0 where
  pub performed : (text : List ℕ) (commands : List Command) → left ≡ Some text →
      IsAccepted text commands → (fault ≡ None) ⊎ (fault ≡ Some Memory)
  pub refused : (text : List ℕ) (f : LineFault) → left ≡ Some text → ScheduleBreak text f →
      (fault ≡ Some (Line f)) ⊎ (fault ≡ Some Memory)

-- where no read and no write failed, input without a break comes to no fault
abbrev pub Completes : Word → Type 0 → Type 0 → Type 0 → Option (List ℕ) → Option Fault → Type 0
Completes Run tells all_read all_written left fault =
    tells → all_read → all_written → RunCompletes left fault
Completes (Show layout) tells all_read all_written left fault =
    all_read → all_written → (samples : List Sample) → AreSpelled layout samples →
    length samples ≤ MAX_SAMPLES → left ≡ Some (joined layout samples) → fault ≡ None
Completes (Demo turns) tells all_read all_written left fault =
    all_written → (fault ≡ None) ⊎ (fault ≡ Some Memory)
