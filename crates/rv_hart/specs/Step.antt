-- One step of a hart (RISC-V Privileged Architecture; Control Transfer Records 1.0): it takes an interrupt or executes one
-- instruction.
use Rattle.std.specs.Prelude.{ℕ, ◌-◌, ◌^◌, Bool, false, cond, nat_eq, List, [], ◌∷◌, fold, length, Option, Some, None, Result, Ok, Err, bit_and, bit_or}
use Rattle.ctr_csrs.specs.declared.mode.Mode.{Mode}
use Rattle.ctr_csrs.specs.declared.mode.Mode.TheVariants as modes
use Rattle.ctr_buffer.specs.declared.event.Event.{Event}
use Rattle.ctr_buffer.specs.declared.event.Event.TheVariants as events
use Rattle.ctr_buffer.specs.History.{after}
use Rattle.ctr_rules.specs.declared.transfer.Transfer.{Transfer}
use Rattle.guest_modes.specs.declared.causes.TheConstants.{BREAKPOINT, ILLEGAL_INSTRUCTION, INSTRUCTION_ACCESS_FAULT, LOCAL_COUNTER_OVERFLOW, VIRTUAL_INSTRUCTION}
use Rattle.guest_modes.specs.declared.gating.CsrFault.{CsrFault}
use Rattle.guest_modes.specs.declared.gating.CsrFault.TheVariants.{Illegal, Virtual}
use Rattle.guest_modes.specs.declared.returning.Ret.{Ret}
use Rattle.guest_modes.specs.declared.targets.Trap.{Trap}
use Rattle.guest_modes.specs.declared.targets.Trap.TheVariants.{Exception, Interrupt}
use Rattle.guest_modes.specs.Traps.{target_of}
use Rattle.guest_modes.specs.Entry.{after_trap, handler_of}
use Rattle.guest_modes.specs.Returns.{after_return, mode_after, pc_after}
use Rattle.guest_modes.specs.Interrupts.{next_interrupt}
use Rattle.indirect_regs.specs.declared.accessing.CsrUse.{CsrUse}
use Rattle.indirect_regs.specs.declared.accessing.CsrUse.TheVariants as uses
use Rattle.indirect_regs.specs.Access.{AccessResult, access_of}
use Rattle.indirect_regs.specs.Unit.{UnitState}
use Rattle.rv_decode.specs.declared.instruction.Instr.{Instr}
use Rattle.rv_decode.specs.declared.instruction.Instr.TheVariants.{Csr, CtrClr}
use Rattle.rv_decode.specs.declared.instruction.CsrArg.{CsrArg}
use Rattle.rv_decode.specs.declared.instruction.CsrArg.TheVariants.{Reg, Imm}
use Rattle.rv_decode.specs.declared.operations.CsrOp.{CsrOp}
use Rattle.rv_decode.specs.declared.operations.CsrOp.TheVariants.{Write, Set, Clear}
use Rattle.rv_decode.specs.declared.operations.Width.TheVariants.{W}
use Rattle.rv_decode.specs.Rows.{instruction_of}
use Rattle.xfer_class.specs.declared.types.XferType.{XferType}
use Rattle.xfer_class.specs.declared.types.XferType.TheVariants as types
use Rattle.rv_hart.specs.declared.outcome.Jump.{Jump}
use Rattle.rv_hart.specs.declared.outcome.Outcome.{Outcome}
use Rattle.rv_hart.specs.declared.outcome.Outcome.TheVariants.{Goes, Returns, Raises}
use Rattle.rv_hart.specs.Memory.{place_of, number_at}
use Rattle.rv_hart.specs.Processor.{CoreState, reg, put, at_next}
use Rattle.rv_hart.specs.Effect.{Effect, effect}
use Rattle.rv_hart.specs.Transfers.{act_in, events_by, frozen_by}

-- a hart that runs a task: its core and its control transfer unit, and the memory of the task
pub record MachineState : Type 0 where
  pub core : CoreState
  pub unit : UnitState
  pub mem : List ℕ

-- what a step leaves: the core; the unit, but for its record buffer, which is read nowhere; and the events of the record
-- buffer, the oldest first, which say what becomes of it
pub record Step : Type 0 where
  pub core : CoreState
  pub unit : UnitState
  pub events : List Event

-- a step that ends in a transfer, with the core as it is then: the transfer is judged by the unit as it was before the step
abbrev pub carried : Transfer → CoreState → UnitState → Step
carried t core u =
    let a = act_in t u in
    record { core = core; unit = record u { frozen = frozen_by a u.frozen }; events = events_by a }

-- the transfer of a trap: its type, a breakpoint exception or not, a counter overflow interrupt or not
abbrev pub type_of_trap : Trap → XferType
type_of_trap (Exception cause) = types.Exception
type_of_trap (Interrupt cause) = types.Interrupt

abbrev pub is_breakpoint : Trap → Bool
is_breakpoint (Exception cause) = nat_eq cause BREAKPOINT
is_breakpoint (Interrupt cause) = false

abbrev pub is_overflow : Trap → Bool
is_overflow (Exception cause) = false
is_overflow (Interrupt cause) = nat_eq cause LOCAL_COUNTER_OVERFLOW

abbrev pub trap_transfer : Trap → CoreState → Transfer
trap_transfer trap c = record {
  from = c.mode;
  to = target_of c.csrs c.mode trap;
  kind = type_of_trap trap;
  source = c.pc;
  target = handler_of c.csrs c.mode trap;
  breakpoint = is_breakpoint trap;
  lcofi = is_overflow trap;
  misp = false;
}

-- a trap is taken
abbrev pub trapped : Trap → ℕ → CoreState → UnitState → Step
trapped trap value c u =
    carried (trap_transfer trap c)
    (record {
      x = c.x;
      pc = handler_of c.csrs c.mode trap;
      mode = target_of c.csrs c.mode trap;
      csrs = after_trap c.csrs c.mode trap c.pc value;
    })
    u

-- a return from a trap
abbrev pub return_transfer : Ret → CoreState → Transfer
return_transfer ret c = record {
  from = c.mode;
  to = mode_after c.csrs ret;
  kind = types.TrapReturn;
  source = c.pc;
  target = pc_after c.csrs ret;
  breakpoint = false;
  lcofi = false;
  misp = false;
}

abbrev pub returned : Ret → CoreState → UnitState → Step
returned ret c u =
    carried (return_transfer ret c)
    (record { x = c.x; pc = pc_after c.csrs ret; mode = mode_after c.csrs ret; csrs = after_return c.csrs ret })
    u

-- a jump or a branch, which stays in its mode
abbrev pub jump_transfer : Jump → ℕ → CoreState → Transfer
jump_transfer jump pc c = record {
  from = c.mode;
  to = c.mode;
  kind = jump.kind;
  source = c.pc;
  target = pc;
  breakpoint = false;
  lcofi = false;
  misp = jump.misp;
}

abbrev pub went : Option Jump → ℕ → CoreState → UnitState → Step
went None pc c u = record { core = record c { pc = pc }; unit = u; events = [] }
went (Some jump) pc c u = carried (jump_transfer jump pc c) (record c { pc = pc }) u

-- how a step ends by the outcome of its instruction
abbrev pub concluded : Outcome → CoreState → UnitState → Step
concluded (Goes jump pc) c u = went jump pc c u
concluded (Returns ret) c u = returned ret c u
concluded (Raises cause value) c u = trapped (Exception cause) value c u

-- the operand of a CSR instruction, and whether its register number or its immediate is 0
abbrev pub operand : CsrArg → CoreState → ℕ
operand (Reg r) c = reg c r
operand (Imm n) c = n

abbrev pub is_zero : CsrArg → Bool
is_zero (Reg r) = nat_eq r 0
is_zero (Imm n) = nat_eq n 0

-- CSRRS and CSRRC with the register x0 or the immediate 0 don't write
abbrev pub use_of : CsrOp → CsrArg → CoreState → CsrUse
use_of Write arg c = uses.Write (operand arg c)
use_of Set arg c = cond (is_zero arg) uses.Read (uses.Set (operand arg c))
use_of Clear arg c = cond (is_zero arg) uses.Read (uses.Clear (operand arg c))

abbrev pub any_event : Option Event → List Event
any_event None = []
any_event (Some e) = e ∷ []

-- a refused access is an illegal or a virtual instruction
abbrev pub refused : CsrFault → ℕ → CoreState → UnitState → Step
refused Illegal word c u = trapped (Exception ILLEGAL_INSTRUCTION) word c u
refused Virtual word c u = trapped (Exception VIRTUAL_INSTRUCTION) word c u

-- an access to a register: rd takes the old value
abbrev pub answered : Result ℕ CsrFault → AccessResult → ℕ → ℕ → CoreState → UnitState → Step
answered (Ok old) a rd word c u = record {
  core = at_next (put (record c { csrs = a.registers }) rd old);
  unit = a.unit;
  events = any_event a.event;
}
answered (Err fault) a rd word c u = refused fault word c u

abbrev pub by_access : AccessResult → ℕ → ℕ → CoreState → UnitState → Step
by_access a rd word c u = answered a.answer a rd word c u

-- SCTRCLR is illegal in U, and a virtual instruction in VU
abbrev pub clears : Mode → ℕ → CoreState → UnitState → Step
clears modes.U word c u = trapped (Exception ILLEGAL_INSTRUCTION) word c u
clears modes.Vu word c u = trapped (Exception VIRTUAL_INSTRUCTION) word c u
clears _ word c u = record { core = at_next c; unit = u; events = events.Clear ∷ [] }

abbrev pub by_effect : Effect → UnitState → Step
by_effect e u = concluded e.outcome e.core u

-- an instruction, with its word, is executed
abbrev pub executed : Instr → ℕ → CoreState → UnitState → List ℕ → Step
executed (Csr op rd arg csr) word c u bytes = by_access (access_of u c.csrs c.mode csr (use_of op arg c)) rd word c u
executed CtrClr word c u bytes = clears c.mode word c u
executed i word c u bytes = by_effect (effect i word c bytes) u

-- a step, and the memory after it
pub record Made : Type 0 where
  pub step : Step
  pub mem : List ℕ

-- the word is instruction_of; an unknown word is an illegal instruction
abbrev pub by_instruction : Option Instr → ℕ → MachineState → Made
by_instruction None word s = record { step = trapped (Exception ILLEGAL_INSTRUCTION) word s.core s.unit; mem = s.mem }
by_instruction (Some i) word s = record {
  step = executed i word s.core s.unit s.mem;
  mem = (effect i word s.core s.mem).bytes;
}

-- the word at the program counter, if it lies wholly in memory
abbrev pub fetched_at : Option ℕ → List ℕ → Option ℕ
fetched_at None bytes = None
fetched_at (Some at) bytes = Some (number_at W bytes at)

abbrev pub fetched : MachineState → Option ℕ
fetched s = fetched_at (place_of (length s.mem) s.core.pc 4) s.mem

-- there is no word: an instruction access fault
abbrev pub by_word : Option ℕ → MachineState → Made
by_word None s = record { step = trapped (Exception INSTRUCTION_ACCESS_FAULT) s.core.pc s.core s.unit; mem = s.mem }
by_word (Some word) s = by_instruction (instruction_of word) word s

-- an interrupt that is taken is pending no longer, and nothing is executed
abbrev pub lowered : ℕ → CoreState → CoreState
lowered i c = record c { csrs = record c.csrs { mip = bit_and c.csrs.mip (2 ^ 64 - 1 - 2 ^ i) } }

abbrev pub by_interrupt : Option ℕ → MachineState → Made
by_interrupt (Some i) s = record { step = trapped (Interrupt i) 0 (lowered i s.core) s.unit; mem = s.mem }
by_interrupt None s = by_word (fetched s) s

-- interrupts become pending
abbrev pub raised : ℕ → MachineState → MachineState
raised pending s = record s { core = record s.core { csrs = record s.core.csrs { mip = bit_or s.core.csrs.mip pending } } }

abbrev pub made : MachineState → Made
made s = by_interrupt (next_interrupt s.core.csrs s.core.mode) s

-- the step of a hart where these interrupts become pending: bit i is interrupt i
abbrev pub step_of : ℕ → MachineState → Made
step_of pending s = made (raised pending s)

abbrev pub events_of : ℕ → MachineState → List Event
events_of pending s = (step_of pending s).step.events

-- the state after a step: the record buffer is what its events make of the one before
abbrev pub landed : UnitState → Made → MachineState
landed u m = record { core = m.step.core; unit = record m.step.unit { stack = fold after u.stack m.step.events }; mem = m.mem }

abbrev pub next : ℕ → MachineState → MachineState
next pending s = landed s.unit (step_of pending s)
