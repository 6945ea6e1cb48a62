-- The lone run of a task: the state and the history after each number of steps on a hart of its own
-- (RISC-V Control Transfer Records 1.0; the first state as after a reset, Privileged Architecture,
-- "Reset").
use Rattle.std.specs.Prelude.{◌≡◌, ℕ, zero, suc, ◌+◌, List, [], ◌∷◌, ◌++◌, bit_and}
use Rattle.ctr_csrs.specs.ControlFigure.{m_mask, s_mask}
use Rattle.ctr_buffer.specs.declared.event.Event.{Event}
use Rattle.ctr_buffer.specs.declared.event.Event.TheVariants.{SetDepth}
use Rattle.ctr_buffer.specs.History.{stack_of, deep_of, pointer_of}
use Rattle.indirect_regs.specs.Unit.{fresh_unit}
use Rattle.rv_hart.specs.Memory.{memory_of}
use Rattle.rv_hart.specs.Processor.{fresh_core}
use Rattle.rv_hart.specs.Step.{MachineState, next, events_of}
use Rattle.rv_hart.specs.Task.{Irq, Task, causes}

-- a state, and the events of its record buffer from the first one on
pub record RunState : Type 0 where
  pub state : MachineState
  pub history : List Event

-- before the first step: a fresh core, the image with zeros after it, the depth, and the controls as they keep their words
abbrev pub first_state : Task → MachineState
first_state t = record {
  core = fresh_core;
  unit = record (fresh_unit t.depth) { m = bit_and t.mctrctl m_mask; vs = bit_and t.vsctrctl s_mask };
  mem = memory_of t.image t.mem;
}

abbrev pub first_run : Task → RunState
first_run t = record { state = first_state t; history = SetDepth t.depth ∷ [] }

-- a step adds its events to the history
abbrev pub run_next : ℕ → RunState → RunState
run_next pending t = record { state = next pending t.state; history = t.history ++ events_of pending t.state }

-- the run of a task alone, after so many steps
abbrev pub lone_run : Task → ℕ → RunState
lone_run t zero = first_run t
lone_run t (suc n) = run_next (causes t.irqs n) (lone_run t n)

-- the record buffer of a state is what its history leaves: its depth, its list and its pointer, which is counted
pub record FollowsHistory (t : RunState) : Type 0 where
  pub stack : t.state.unit.stack ≡ stack_of t.history
  pub depth : t.state.unit.stack.depth ≡ deep_of t.history
  pub pointer : t.state.unit.stack.pointer ≡ pointer_of t.history

-- two states agree in all but their histories
abbrev pub HaveSameState : RunState → RunState → Type 0
HaveSameState a b = a.state ≡ b.state

-- the state n steps after a state at which the task with these interrupts had made `before` steps
abbrev pub after_steps : List Irq → ℕ → ℕ → MachineState → MachineState
after_steps irqs before zero s = s
after_steps irqs before (suc n) s = next (causes irqs (before + n)) (after_steps irqs before n s)

-- m + n steps are n steps after m, of every state
abbrev pub StepsJoin : Type 0
StepsJoin = (irqs : List Irq) (before m n : ℕ) (s : MachineState) →
    after_steps irqs before (m + n) s ≡ after_steps irqs (before + m) n (after_steps irqs before m s)

-- and of a lone run
abbrev pub RunGoesOn : Type 0
RunGoesOn = (t : Task) (m n : ℕ) → (lone_run t (m + n)).state ≡ after_steps t.irqs m n (lone_run t m).state
