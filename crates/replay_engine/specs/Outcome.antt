-- What a call that performs a command leaves, by its answer.
use Rattle.std.specs.Prelude.{◌≡◌, ℕ, suc, ◌<◌, ◌≤◌, ◌^◌, Bool, true, false, if◌then◌else◌}
use Rattle.std.specs.Prelude.{nat_lt, List, [], ◌++◌, length, slice_get, Option, Some, None}
use Rattle.std.specs.Prelude.{Result, Ok, Err, ⊤}
use Rattle.ctr_port.specs.Sink.{GainsPart}
use Rattle.rv_hart.specs.Hart.{HartState}
use Rattle.perf_sample.specs.declared.sample.Sample.{Sample}
use Rattle.sched_text.specs.declared.schedule.Command.{Command}
use Rattle.sched_text.specs.declared.schedule.Command.TheVariants.{Run, Sample as Sampled, Evict}
use Rattle.sched_text.specs.declared.schedule.Command.TheVariants.{End}
use Rattle.replay_engine.specs.declared.plan.TaskPlan.{TaskPlan}
use Rattle.replay_engine.specs.declared.fault.PerformFault.{PerformFault}
use Rattle.replay_engine.specs.declared.fault.PerformFault.TheVariants.{NoTask, NoHart, NotResident}
use Rattle.replay_engine.specs.declared.fault.PerformFault.TheVariants.{EmptyHart, Write}
use Rattle.replay_engine.specs.Tasks.{TaskState, PresentState, PlacesAgree, places}
use Rattle.replay_engine.specs.Runs.{present_after, due_sample, spellings, IsCut}
use Rattle.replay_engine.specs.Counts.{CountsHaveRoom}
use Rattle.replay_engine.specs.View.{View, Plan, view_of, context_of, after_command}
use Rattle.replay_engine.specs.View.{samples_of_command}

-- what a command may be performed on: the places that the engine keeps agree with the residents of
-- the harts, and no count is near its end
pub record IsReady (plan : Plan) (ts : List TaskState) (hs : List HartState) : Type 0 where
  pub kept : PlacesAgree ts hs
  pub size : length plan.tasks ≡ length ts
  pub harts : plan.harts ≤ 16
  pub room : CountsHaveRoom (2 ^ 61) (view_of ts hs)

abbrev pub no_place : Option (Option ℕ) → PerformFault → Option PerformFault
no_place (Some (Some h)) f = None
no_place (Some None) f = Some f
no_place None f = Some f

-- why a command is refused
abbrev pub refusal : Plan → View → Command → Option PerformFault
refusal plan v (Run h t n) =
    if nat_lt t (length plan.tasks) then (if nat_lt h plan.harts then None else Some NoHart)
    else Some NoTask
refusal plan v (Sampled t) =
    if nat_lt t (length plan.tasks) then no_place (slice_get v.places t)
    NotResident else Some NoTask
refusal plan v (Evict h) =
    if nat_lt h plan.harts then no_place (slice_get v.residents h) EmptyHart else Some NoHart
refusal plan v End = None

-- the sample that is due after so many steps of a run
abbrev pub due_by : Option PresentState → Option TaskPlan → Plan → ℕ → ℕ → ℕ → List Sample
due_by (Some p) (Some o) plan h t n = due_sample (context_of plan h t o) (present_after o.irqs n p)
due_by (Some p) None plan h t n = []
due_by None o plan h t n = []

-- a hart that a command doesn't reach: it isn't the one named, and the task isn't on it before
abbrev pub IsUntouched : ℕ → Command → List (Option ℕ) → Type 0
IsUntouched k (Run h t n) ps = (k ≡ h → ⊥) × (slice_get ps t ≡ Some (Some k) → ⊥)
IsUntouched k (Sampled t) ps = slice_get ps t ≡ Some (Some k) → ⊥
IsUntouched k (Evict h) ps = k ≡ h → ⊥
IsUntouched k End ps = ⊤

-- all such harts are as before, cores and records too
abbrev pub OthersStay : Command → List (Option ℕ) → List HartState → List HartState → Type 0
OthersStay c ps hs hs' = (k : ℕ) → IsUntouched k c ps → slice_get hs' k ≡ slice_get hs k

-- all of it was done
pub record CommandDone {K : Type 0} (gained : K → List ℕ → K → Type 0) (old new : K) (plan : Plan)
    (v v' : View) (c : Command) : Type 0 where
  pub view : v' ≡ after_command plan v c
  pub written : gained old (spellings plan.layout (samples_of_command plan v c)) new

-- so many steps and one of a run were made, and the sample after the last of them was cut short
pub record RunBroken {K : Type 0} (gained : K → List ℕ → K → Type 0) (old new : K) (plan : Plan)
    (v v' : View) (h t n : ℕ) : Type 0 where
  pub before : ℕ
  pub within : before < n
  pub view : v' ≡ after_command plan v (Run h t (suc before))
  pub last : List ℕ
  pub written : gained old (spellings plan.layout (samples_of_command plan v (Run h t before))
      ++ last) new
  pub cut : IsCut last
      (spellings plan.layout (due_by (slice_get v.present_states t) (slice_get plan.tasks t)
      plan h t (suc before)))

pub record SampleBroken {K : Type 0} (gained : K → List ℕ → K → Type 0) (old new : K) (plan : Plan)
    (v v' : View) (c : Command) : Type 0 where
  pub view : v' ≡ after_command plan v c
  pub written : GainsPart gained old new (spellings plan.layout (samples_of_command plan v c))

-- the sink failed at a sample
abbrev pub CommandBroken : {K : Type 0} → (K → List ℕ → K → Type 0) → K → K → Plan → View → View →
    Command → Type 0
CommandBroken gained old new plan v v' (Run h t n) = RunBroken gained old new plan v v' h t n
CommandBroken gained old new plan v v' (Sampled t) =
    SampleBroken gained old new plan v v' (Sampled t)
CommandBroken gained old new plan v v' (Evict h) = ⊥
CommandBroken gained old new plan v v' End = ⊥

-- nothing was done
pub record IsRefused {K : Type 0} (old new : K) (plan : Plan) (ts ts' : List TaskState)
    (hs hs' : List HartState) (c : Command) (f : PerformFault) : Type 0 where
  pub cause : refusal plan (view_of ts hs) c ≡ Some f
  pub tasks : ts' ≡ ts
  pub harts : hs' ≡ hs
  pub sink : new ≡ old

pub record IsPerformed {K : Type 0} (gained : K → List ℕ → K → Type 0) (old new : K) (plan : Plan)
    (ts ts' : List TaskState) (hs hs' : List HartState) (c : Command) : Type 0 where
  pub allowed : refusal plan (view_of ts hs) c ≡ None
  pub kept : PlacesAgree ts' hs'
  pub others : OthersStay c (places ts) hs hs'
  pub done : CommandDone gained old new plan (view_of ts hs) (view_of ts' hs') c

pub record IsCutOff {K : Type 0} (gained : K → List ℕ → K → Type 0) (old new : K) (plan : Plan)
    (ts ts' : List TaskState) (hs hs' : List HartState) (c : Command) : Type 0 where
  pub allowed : refusal plan (view_of ts hs) c ≡ None
  pub kept : PlacesAgree ts' hs'
  pub others : OthersStay c (places ts) hs hs'
  pub broke : CommandBroken gained old new plan (view_of ts hs) (view_of ts' hs') c

abbrev pub IsOutcome : {K : Type 0} → (K → List ℕ → K → Type 0) → K → K → Plan → List TaskState →
    List TaskState → List HartState → List HartState → Command → Result (Unit {0}) PerformFault →
    Type 0
IsOutcome gained old new plan ts ts' hs hs' c (Ok _) =
    IsPerformed gained old new plan ts ts' hs hs' c
IsOutcome gained old new plan ts ts' hs hs' c (Err NoTask) =
    IsRefused old new plan ts ts' hs hs' c NoTask
IsOutcome gained old new plan ts ts' hs hs' c (Err NoHart) =
    IsRefused old new plan ts ts' hs hs' c NoHart
IsOutcome gained old new plan ts ts' hs hs' c (Err NotResident) =
    IsRefused old new plan ts ts' hs hs' c NotResident
IsOutcome gained old new plan ts ts' hs hs' c (Err EmptyHart) =
    IsRefused old new plan ts ts' hs hs' c EmptyHart
IsOutcome gained old new plan ts ts' hs hs' c (Err Write) =
    IsCutOff gained old new plan ts ts' hs hs' c

-- the sink failed
abbrev pub is_write_fault : PerformFault → Bool
is_write_fault Write = true
is_write_fault NoTask = false
is_write_fault NoHart = false
is_write_fault NotResident = false
is_write_fault EmptyHart = false

abbrev pub is_write : Result (Unit {0}) PerformFault → Bool
is_write (Ok _) = false
is_write (Err fault) = is_write_fault fault
