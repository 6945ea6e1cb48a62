-- What every state of a machine and every event of a lone run keep to.
use Rattle.std.specs.Prelude.{ℕ, ◌≡◌, ◌^◌, ◌<◌, List, [], ◌∷◌, length, slice_index}
use Rattle.std.specs.List.{All}
use Rattle.ctr_buffer.specs.declared.event.Event.{Event}
use Rattle.ctr_buffer.specs.declared.event.Event.TheVariants.{SetDepth}
use Rattle.ctr_buffer.specs.Facts.{IsEvent}
use Rattle.ctr_buffer.specs.History.{CanTakeAll}
use Rattle.ctr_buffer.specs.Stack.{empty}
use Rattle.guest_modes.specs.declared.causes.TheConstants.{INTERRUPTS}
use Rattle.guest_modes.specs.Facts.{IsPriv, IsPlace}
use Rattle.guest_modes.specs.Words.{IsWithin}
use Rattle.indirect_regs.specs.Facts.{IsWholeUnit}
use Rattle.indirect_regs.specs.Unit.{UnitState, HasControls}
use Rattle.rv_hart.specs.Lone.{lone_run, after_steps}
use Rattle.rv_hart.specs.Processor.{CoreState}
use Rattle.rv_hart.specs.Step.{MachineState, Step, Made, next}
use Rattle.rv_hart.specs.Task.{Irq, Task, AreInterrupts}

-- 32 registers of 64 bits
pub record AreRegisters (x : List ℕ) : Type 0 where
  pub full : length x ≡ 32
  pub words : All (λ n. n < 2 ^ 64) x

-- x0 is 0, the program counter is the address of an instruction, and the registers of its software hold what they can
pub record IsCore (c : CoreState) : Type 0 where
  pub x : AreRegisters c.x
  pub zero : slice_index c.x 0 ≡ 0
  pub pc : IsPlace c.pc
  pub csrs : IsPriv c.csrs

abbrev pub AreBytes : List ℕ → Type 0
AreBytes bytes = All (λ n. n < 256) bytes

pub record IsState (s : MachineState) : Type 0 where
  pub core : IsCore s.core
  pub unit : IsWholeUnit s.unit
  pub bytes : AreBytes s.mem

-- each event records a transfer with V, or writes what a part of an entry can hold
abbrev pub AreEvents : List Event → Type 0
AreEvents [] = Unit {0}
AreEvents (e ∷ es) = IsEvent e × AreEvents es

-- what a step leaves, where u is the unit before it
pub record IsStep (u : UnitState) (s : Step) : Type 0 where
  pub core : IsCore s.core
  pub unit : HasControls s.unit
  pub events : AreEvents s.events
  pub can : CanTakeAll u.stack s.events

pub record IsMade (u : UnitState) (m : Made) : Type 0 where
  pub step : IsStep u m.step
  pub bytes : AreBytes m.mem

-- an image of bytes, and interrupts that have numbers
pub record IsTask (t : Task) : Type 0 where
  pub image : AreBytes t.image
  pub irqs : AreInterrupts t.irqs

-- a history that begins with the task's depth and goes on by events that can be taken one after another
pub record CanReplay (t : Task) (history : List Event) : Type 0 where
  pub later : List Event
  pub is : history ≡ SetDepth t.depth ∷ later
  pub can : CanTakeAll (empty t.depth) later

-- a step, and any number of them, keep the facts of a state
abbrev pub NextKeeps : Type 0
NextKeeps = (pending : ℕ) (s : MachineState) → IsWithin INTERRUPTS pending → IsState s → IsState (next pending s)

abbrev pub StepsKeep : Type 0
StepsKeep = (irqs : List Irq) (before n : ℕ) (s : MachineState) →
    AreInterrupts irqs → IsState s → IsState (after_steps irqs before n s)

-- and so does a lone run, whose events record transfers with V and can be taken one after another
abbrev pub LoneRunKeeps : Type 0
LoneRunKeeps = (t : Task) (n : ℕ) → IsTask t → IsState (lone_run t n).state

abbrev pub HistoryKeeps : Type 0
HistoryKeeps = (t : Task) (n : ℕ) → IsTask t → AreEvents (lone_run t n).history

abbrev pub HistoryReplays : Type 0
HistoryReplays = (t : Task) (n : ℕ) → IsTask t → CanReplay t (lone_run t n).history
