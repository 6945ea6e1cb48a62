-- What the parts of `run` leave. These tie private functions together.
use Rattle.std.specs.Prelude.{◌≡◌, ◌⊎◌, ℕ, ◌+◌, ◌<◌, List, [], length, replicate, take, slice_get}
use Rattle.std.specs.Prelude.{Option, Some, None, Result, Ok, Err}
use Rattle.std.specs.List.{All}
use Rattle.ctr_port.specs.InHand.{Of}
use Rattle.replay_engine.specs.Scheduled.{first_of}
use Rattle.replay_engine.specs.Start.{AreMemories, memories}
use Rattle.replay_engine.specs.Tasks.{PresentState}
use Rattle.replay_engine.specs.declared.fault.PerformFault.{PerformFault}
use Rattle.replay_engine.specs.declared.fault.PerformFault.TheVariants as perform_fault
use Rattle.rv_hart.specs.Facts.{AreBytes}
use Rattle.sched_text.specs.Commands.{command_at}
use Rattle.sched_text.specs.Header.{HasHeader, HeaderAnswer}
use Rattle.sched_text.specs.Outcomes.{total, IsBehind, IsImage, ImagesAnswer, FirstCommands}
use Rattle.sched_text.specs.Reader.{CommandAnswer}
use Rattle.sched_text.specs.declared.faults.CommandFault.{CommandFault}
use Rattle.sched_text.specs.declared.faults.CommandFault.TheVariants as command_fault
use Rattle.sched_text.specs.declared.faults.Reason.TheVariants as reason
use Rattle.sched_text.specs.declared.faults.ScheduleFault.{ScheduleFault}
use Rattle.sched_text.specs.declared.faults.ScheduleFault.TheVariants as schedule_fault
use Rattle.sched_text.specs.declared.limits.TheConstants.{WINDOW}
use Rattle.sched_text.specs.declared.schedule.Command.{Command}
use Rattle.sched_text.specs.declared.schedule.Command.TheVariants.{End}
use Rattle.sched_text.specs.declared.schedule.Header.{Header}
use Rattle.sched_text.specs.declared.schedule.TaskLine.{TaskLine}
use Rattle.ctrsim_cli.specs.Counted.{none_counted, counted}
use Rattle.ctrsim_cli.specs.Demo.{demo_header, demo_image}
use Rattle.ctrsim_cli.specs.OnHarts.{Chain}
use Rattle.ctrsim_cli.specs.Schedule.{Schedule, IsSchedule}
use Rattle.ctrsim_cli.specs.declared.counting.Counter.{Counter}
use Rattle.ctrsim_cli.specs.declared.fault.Fault.{Fault}
use Rattle.ctrsim_cli.specs.declared.fault.Fault.TheVariants.{ReadFault, WriteFault, Line, Memory}

-- the states that the lone runs of the tasks of a schedule begin with
abbrev pub first_states : Schedule → List PresentState
first_states s = first_of s.header s.images

-- the images of the first so many of these tasks, one behind the other, and what follows them
pub record HasImages (tasks : List TaskLine) (images : List (List ℕ)) (n : ℕ) (t t' : List ℕ)
    : Type 0 where
  pub behind : IsBehind n t t'
  pub each : (i : ℕ) (image : List ℕ) → slice_get images i ≡ Some image → IsImage tasks i image t

-- the memories of the first so many tasks, from their images
pub record FirstMemories (tasks : List TaskLine) (n : ℕ) (mems : List (List ℕ))
    (text text' : Option (List ℕ)) : Type 0 where
  pub images : List (List ℕ)
  pub bytes : All AreBytes images
  pub size : length images ≡ n
  pub are : mems ≡ memories (take n tasks) images
  pub sizes : AreMemories (take n tasks) mems
  pub there : Of text text' (HasImages tasks images (total (take n tasks)))

-- those of all tasks
pub record MemoriesRead (tasks : List TaskLine) (mems : List (List ℕ)) (text text' : Option (List ℕ))
    : Type 0 where
  pub images : List (List ℕ)
  pub bytes : All AreBytes images
  pub size : length images ≡ length tasks
  pub are : mems ≡ memories tasks images
  pub sizes : AreMemories tasks mems
  pub there : Of text text' (HasImages tasks images (total tasks))

abbrev pub MemoriesAnswer : ℕ → List TaskLine → Option (List ℕ) → Option (List ℕ) → List ℕ
    → Result (List (List ℕ)) ScheduleFault → Type 0
MemoriesAnswer line tasks text text' hand (Ok mems) = MemoriesRead tasks mems text text'
MemoriesAnswer line tasks text text' hand (Err f) =
    ImagesAnswer line (total tasks) text text' hand (Err f)

-- a header and its images are at the front of a text, and this follows them
pub record Begins (lines : ℕ) (h : Header) (images : List (List ℕ)) (t t' : List ℕ) : Type 0 where
  pub rest : List ℕ
  pub header : HasHeader t lines h rest
  pub there : HasImages h.tasks images (total h.tasks) rest t'

-- what opening a schedule comes to: an engine that follows no command on fresh harts
pub record Opened {E H : Type 0} (fresh : H → Type 0)
    (follows : Header → List (List ℕ) → List Command → E → H → Type 0) (e : E) (lines : ℕ)
    (left text' : Option (List ℕ)) : Type 0 where
  pub header : Header
  pub images : List (List ℕ)
  pub is : IsSchedule (record { header = header; images = images; commands = [] })
  pub begins : (a : H) → fresh a → follows header images [] e a
  pub there : Of left text' (Begins lines header images)

-- it was refused in the header, or in the images behind it
pub record ImagesRefused (lines : ℕ) (left text' : Option (List ℕ)) (hand : List ℕ)
    (f : ScheduleFault) : Type 0 where
  pub header : Header
  pub middle : Option (List ℕ)
  pub has : Of left middle (λ t t'. HasHeader t lines header t')
  pub refused : ImagesAnswer lines (total header.tasks) middle text' hand (Err f)

-- why a schedule can't be opened, among the faults of the call
abbrev pub opening_fault : ScheduleFault → Fault
opening_fault (schedule_fault.Line f) = Line f
opening_fault schedule_fault.ReadFault = ReadFault
opening_fault schedule_fault.Memory = Memory

-- why there is no next command
abbrev pub reading_fault : CommandFault → Fault
reading_fault (command_fault.Line f) = Line f
reading_fault command_fault.ReadFault = ReadFault

-- why the command of this line wasn't performed
abbrev pub performing_fault : PerformFault → ℕ → Fault
performing_fault perform_fault.NoTask line = Line (record { line = line; reason = reason.NoTask })
performing_fault perform_fault.NoHart line = Line (record { line = line; reason = reason.NoHart })
performing_fault perform_fault.NotResident line =
    Line (record { line = line; reason = reason.NotResident })
performing_fault perform_fault.EmptyHart line =
    Line (record { line = line; reason = reason.EmptyHart })
performing_fault perform_fault.Write line = WriteFault

abbrev pub OpenAnswer : {E H : Type 0} → (H → Type 0) →
    (Header → List (List ℕ) → List Command → E → H → Type 0) → ℕ → Option (List ℕ) →
    Option (List ℕ) → List ℕ → Result E ScheduleFault → Type 0
OpenAnswer fresh follows lines left text' hand (Ok e) = Opened fresh follows e lines left text'
OpenAnswer fresh follows lines left text' hand (Err f) =
    HeaderAnswer lines left text' hand (Err f) ⊎ ImagesRefused lines left text' hand f

-- so many commands behind the images were read and performed, none of them `end`
pub record Performed {E H K : Type 0}
    (follows : Header → List (List ℕ) → List Command → E → H → Type 0)
    (performed : E → H → Command → Result (Unit {0}) PerformFault → List ℕ → E → H → Type 0)
    (gained : K → List ℕ → K → Type 0) (e : E) (a : H) (old : K) (f : E) (b : H) (new : K)
    (lines count : ℕ) (text text' : Option (List ℕ)) : Type 0 where
  pub commands : List Command
  pub size : length commands ≡ count
  pub given : Of text text' (FirstCommands lines count commands)
  pub bytes : List ℕ
  pub chain : Chain performed commands e a bytes f b
  pub written : gained old bytes new
  pub going : (h : Header) × (images : List (List ℕ)) × follows h images commands f b

-- then the next command wasn't performed, and why
pub record PerformedAll {E H K : Type 0}
    (follows : Header → List (List ℕ) → List Command → E → H → Type 0)
    (performed : E → H → Command → Result (Unit {0}) PerformFault → List ℕ → E → H → Type 0)
    (gained : K → List ℕ → K → Type 0) (e : E) (a : H) (old : K) (b : H) (new : K) (lines : ℕ)
    (text text' : Option (List ℕ)) (Then : ℕ → ℕ → Option (List ℕ) → Option (List ℕ) → Type 0)
    : Type 0 where
  pub count : ℕ
  pub middle : Option (List ℕ)
  pub engine : E
  pub before : Performed follows performed gained e a old engine b new lines count text middle
  pub next : Then (lines + (count + 1)) count middle text'

-- or it was begun, and had another answer
pub record PerformedPart {E H K : Type 0}
    (follows : Header → List (List ℕ) → List Command → E → H → Type 0)
    (performed : E → H → Command → Result (Unit {0}) PerformFault → List ℕ → E → H → Type 0)
    (gained : K → List ℕ → K → Type 0) (e : E) (a : H) (old : K) (b : H) (new : K) (lines : ℕ)
    (text text' : Option (List ℕ)) (hand : List ℕ) (fault : Fault) : Type 0 where
  pub count : ℕ
  pub middle : Option (List ℕ)
  pub engine : E
  pub harts : H
  pub sink : K
  pub before : Performed follows performed gained e a old engine harts sink lines count text middle
  pub command : Command
  pub why : PerformFault
  pub after : E
  pub bytes : List ℕ
  pub stopped : performed engine harts command (Err why) bytes after b
  pub written : gained sink bytes new
  pub next : Of middle text' (λ t t'. command_at (lines + (count + 1)) count t ≡ Ok (command, t'))
  pub near : length hand < WINDOW
  pub is : fault ≡ performing_fault why (lines + (count + 1))

-- the line `end` follows
abbrev pub NextIsEnd : ℕ → ℕ → Option (List ℕ) → Option (List ℕ) → Type 0
NextIsEnd line count text text' = Of text text' (λ t t'. command_at line count t ≡ Ok (End, t'))

-- no command could be read
abbrev pub NextUnread : List ℕ → Fault → ℕ → ℕ → Option (List ℕ) → Option (List ℕ) → Type 0
NextUnread hand fault line count text text' = (f : CommandFault) × (fault ≡ reading_fault f)
    × CommandAnswer (command_at line count) text text' hand (Err f)

-- what ended it
abbrev pub PerformAnswer : {E H K : Type 0} →
    (Header → List (List ℕ) → List Command → E → H → Type 0) →
    (E → H → Command → Result (Unit {0}) PerformFault → List ℕ → E → H → Type 0) →
    (K → List ℕ → K → Type 0) → E → H → K → H → K → ℕ → Option (List ℕ) → Option (List ℕ) →
    List ℕ → Option Fault → Type 0
PerformAnswer follows performed gained e a old b new lines text text' hand None =
    PerformedAll follows performed gained e a old b new lines text text' NextIsEnd
PerformAnswer follows performed gained e a old b new lines text text' hand (Some fault) =
    PerformedAll follows performed gained e a old b new lines text text' (NextUnread hand fault)
    ⊎ PerformedPart follows performed gained e a old b new lines text text' hand fault

-- commands of `demo` were performed, and the bytes counted that were read in them
pub record Made {E H : Type 0} (follows : Header → List (List ℕ) → List Command → E → H → Type 0)
    (performed : E → H → Command → Result (Unit {0}) PerformFault → List ℕ → E → H → Type 0)
    (e : E) (a : H) (commands : List Command) (f : E) (b : H) (c : Counter) : Type 0 where
  pub bytes : List ℕ
  pub chain : Chain performed commands e a bytes f b
  pub going : follows demo_header (replicate 8 demo_image) commands f b
  pub counted : c ≡ counted none_counted bytes
