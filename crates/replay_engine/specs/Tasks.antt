-- The tasks that an engine keeps, and their present states on the harts.
use Rattle.std.specs.Prelude.{◌≡◌, ℕ, List, length, map, slice_get, Option, Some, None}
use Rattle.task_switch.specs.declared.save_area.SaveArea.{SaveArea}
use Rattle.task_switch.specs.SaveArea.{unit_in}
use Rattle.rv_hart.specs.Processor.{CoreState}
use Rattle.rv_hart.specs.Step.{MachineState}
use Rattle.rv_hart.specs.Hart.{HartState, machine_of}

-- what an engine keeps of a task: how many steps it made, its memory, and the hart that it is on;
-- the core and the save area are those of a task that is on no hart
pub record TaskState : Type 0 where
  pub steps : ℕ
  pub mem : List ℕ
  pub core : CoreState
  pub area : SaveArea
  pub place : Option ℕ

-- the state of a task, wherever it is, and how many steps it made
pub record PresentState : Type 0 where
  pub state : MachineState
  pub steps : ℕ

-- a task that is on a hart
abbrev pub state_on : HartState → TaskState → PresentState
state_on y x = record { state = machine_of y x.mem; steps = x.steps }

-- a task that is on none
abbrev pub state_off : TaskState → PresentState
state_off x = record {
  state = record { core = x.core; unit = unit_in x.area; mem = x.mem };
  steps =
      x.steps;
}

-- a task that the engine keeps on a hart, which is there
abbrev pub state_at : Option HartState → TaskState → PresentState
state_at (Some y) x = state_on y x
state_at None x = state_off x

abbrev pub state_by : Option ℕ → List HartState → TaskState → PresentState
state_by None hs x = state_off x
state_by (Some h) hs x = state_at (slice_get hs h) x

abbrev pub present_state : List HartState → TaskState → PresentState
present_state hs x = state_by x.place hs x

abbrev pub present_states : List TaskState → List HartState → List PresentState
present_states ts hs = map (present_state hs) ts

abbrev pub place_of : TaskState → Option ℕ
place_of x = x.place

abbrev pub resident_of : HartState → Option ℕ
resident_of y = y.resident

abbrev pub places : List TaskState → List (Option ℕ)
places ts = map place_of ts

abbrev pub residents : List HartState → List (Option ℕ)
residents hs = map resident_of hs

-- the two lists are each other's inverse
pub record AreInverse (ps rs : List (Option ℕ)) : Type 0 where
  pub placed : (t h : ℕ) → slice_get ps t ≡ Some (Some h) → slice_get rs h ≡ Some (Some t)
  pub resides : (h t : ℕ) → slice_get rs h ≡ Some (Some t) → slice_get ps t ≡ Some (Some h)

-- the places that the engine keeps and the residents of the sixteen harts agree
pub record PlacesAgree (ts : List TaskState) (hs : List HartState) : Type 0 where
  pub inverse : AreInverse (places ts) (residents hs)
  pub sixteen : length hs ≡ 16
