-- What a hart holds, and what sixteen harts hold.
use Rattle.std.proofs.Common.{◌∙◌}
use Rattle.std.specs.Prelude.{◌≡◌, refl, ℕ, List, fold, replicate, Option, None}
use Rattle.ctr_csrs.specs.declared.depth.Depth.TheVariants.{D16}
use Rattle.ctr_buffer.specs.History.{after}
use Rattle.indirect_regs.specs.Access.{AccessResult}
use Rattle.indirect_regs.specs.Unit.{UnitState, fresh_unit}
use Rattle.rv_hart.specs.Processor.{CoreState, fresh_core}
use Rattle.rv_hart.specs.Step.{MachineState, Step}

-- the core, the control transfer unit, how many steps it made, how many accesses a monitor made, and the number of the
-- task that runs on it
pub record HartState : Type 0 where
  pub core : CoreState
  pub unit : UnitState
  pub steps : ℕ
  pub accesses : ℕ
  pub resident : Option ℕ

-- a hart that has done nothing
abbrev pub fresh_hart : HartState
fresh_hart = record { core = fresh_core; unit = fresh_unit D16; steps = 0; accesses = 0; resident = None }

abbrev pub fresh_harts : List HartState
fresh_harts = replicate 16 fresh_hart

-- a hart and a memory as a step sees them
abbrev pub machine_of : HartState → List ℕ → MachineState
machine_of h mem = record { core = h.core; unit = h.unit; mem = mem }

-- a hart after a step, but for its count
abbrev pub ran : HartState → Step → HartState
ran h step = record h { core = step.core; unit = record step.unit { stack = fold after h.unit.stack step.events } }

-- a hart after an access to a register, with rd and the program counter as before
abbrev pub reached : HartState → AccessResult → HartState
reached h a = record h { core = record h.core { csrs = a.registers }; unit = a.unit }

-- what a monitor's port leaves as it is: the core, the steps and the resident
pub record SameRest (a b : HartState) : Type 0 where
  pub core : b.core ≡ a.core
  pub steps : b.steps ≡ a.steps
  pub resident : b.resident ≡ a.resident

abbrev pub same_self : (a : HartState) → SameRest a a
same_self a = record { core = refl; steps = refl; resident = refl }

abbrev pub same_then : (a b c : HartState) → SameRest a b → SameRest b c → SameRest a c
same_then a b c first second = record {
  core = second.core ∙ first.core;
  steps = second.steps ∙ first.steps;
  resident = second.resident ∙ first.resident;
}
