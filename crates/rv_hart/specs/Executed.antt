-- The instruction that a step executes, and the record that it leaves (RISC-V Control Transfer
-- Records 1.0, "Entry Registers" and transfer types; Unprivileged ISA, "Conditional Branches").
use Rattle.std.specs.Prelude.{◌≡◌, ◌⊎◌, ℕ, ◌*◌, ◌/◌, Bool, false, cond, nat_eq, slice_index, List, [], ◌∷◌, Option, Some, None}
use Rattle.ctr_buffer.specs.declared.event.Event.{Event}
use Rattle.ctr_buffer.specs.declared.event.Event.TheVariants.{Push, Swap}
use Rattle.ctr_buffer.specs.Entry.{Entry, recorded_entry}
use Rattle.ctr_csrs.specs.declared.mode.Mode.{Mode}
use Rattle.ctr_csrs.specs.declared.mode.Mode.TheVariants.{Vs}
use Rattle.guest_modes.specs.declared.targets.Trap.{Trap}
use Rattle.guest_modes.specs.declared.targets.Trap.TheVariants.{Exception, Interrupt}
use Rattle.guest_modes.specs.Interrupts.{next_interrupt}
use Rattle.rv_decode.specs.declared.instruction.Instr.{Instr}
use Rattle.rv_decode.specs.declared.instruction.Instr.TheVariants.{Jal, Jalr, Branch, Mret, Sret}
use Rattle.rv_alu.specs.Holds.{holds}
use Rattle.rv_decode.specs.Rows.{instruction_of}
use Rattle.xfer_class.specs.declared.types.XferType.{XferType}
use Rattle.xfer_class.specs.Missed.{missed_of}
use Rattle.xfer_class.specs.Types.{code_of, type_of}
use Rattle.rv_hart.specs.Ending.{Ending, GoesOn, Returned, Trapped, ending}
use Rattle.rv_hart.specs.Processor.{CoreState, plus}
use Rattle.rv_hart.specs.Step.{MachineState, events_of, fetched, next, raised}

-- none where no word lies at the program counter, or no instruction
abbrev pub decoded_at : Option ℕ → Option Instr
decoded_at None = None
decoded_at (Some word) = instruction_of word

-- none where an interrupt is taken
abbrev pub instruction_by : Option ℕ → MachineState → Option Instr
instruction_by (Some i) s = None
instruction_by None s = decoded_at (fetched s)

-- the instruction of a step at which these interrupts become pending
abbrev pub instruction_at : ℕ → MachineState → Option Instr
instruction_at pending s =
    let now = raised pending s in
    instruction_by (next_interrupt now.core.csrs now.core.mode) now

-- the instructions that are transfers: jumps, branches and returns
abbrev pub IsTransfer : Instr → Type 0
IsTransfer (Jal rd off) = Unit {0}
IsTransfer (Jalr rd rs1 off) = Unit {0}
IsTransfer (Branch condition rs1 rs2 off) = Unit {0}
IsTransfer Mret = Unit {0}
IsTransfer Sret = Unit {0}
IsTransfer _ = ⊥

-- no trap is taken
abbrev pub TakesNoTrap : Ending → Type 0
TakesNoTrap GoesOn = Unit {0}
TakesNoTrap (Returned ret) = Unit {0}
TakesNoTrap (Trapped trap value) = ⊥

-- an entry is recorded, or swapped in
abbrev pub HasEntry : Entry → List Event → Type 0
HasEntry e events = (events ≡ Push e ∷ []) ⊎ (events ≡ Swap e ∷ [])

-- this address, or 0 where it was left out
abbrev pub IsKept : ℕ → ℕ → Type 0
IsKept address kept = (kept ≡ address) ⊎ (kept ≡ 0)

-- whether a branch is taken: its condition on the registers before it, of which x0 reads 0; no
-- other instruction asks for one
abbrev pub value_in : List ℕ → ℕ → ℕ
value_in x r = cond (nat_eq r 0) 0 (slice_index x r)

abbrev pub is_taken : List ℕ → Instr → Bool
is_taken x (Branch condition rs1 rs2 off) = holds condition (value_in x rs1) (value_in x rs2)
is_taken x _ = false

-- the record of an instruction from one address to another: its type, and whether the predictor
-- missed it, by whether a branch was taken
pub record IsRecordOf (i : Instr) (taken : Bool) (pc after : ℕ) (e : Entry) : Type 0 where
  pub kind : XferType
  pub type : type_of i taken ≡ Some kind
  pub from : ℕ
  pub to : ℕ
  pub source : IsKept pc from
  pub target : IsKept after to
  pub entry : e ≡ recorded_entry from to (missed_of i taken) (code_of kind)

-- a jump, branch or return that takes no trap is recorded, where it is, with its own address, the next
-- one, of which either may be left out as 0, and its own type; of a branch type and misprediction are
-- those of its outcome
abbrev pub TransfersRecordThemselves : Type 0
TransfersRecordThemselves = (pending : ℕ) (s : MachineState) (i : Instr) (e : Entry) →
    instruction_at pending s ≡ Some i → IsTransfer i → TakesNoTrap (ending pending s) → HasEntry e (events_of pending s)
    → IsRecordOf i (is_taken s.core.x i) s.core.pc (next pending s).core.pc e

-- the type of the record of a trap
abbrev pub trap_type : Trap → ℕ
trap_type (Exception cause) = 1
trap_type (Interrupt i) = 2

-- the record of a trap from one address to another: neither a trap nor its handler is predicted, so
-- MISP is clear; an address may be left out, as 0
pub record IsRecordOfTrap (trap : Trap) (pc after : ℕ) (e : Entry) : Type 0 where
  pub from : ℕ
  pub to : ℕ
  pub source : IsKept pc from
  pub target : IsKept after to
  pub entry : e ≡ recorded_entry from to false (trap_type trap)

-- what is recorded by a step with such an end, which begins at an address and leads to another one
abbrev pub EndRecords : Ending → ℕ → ℕ → List Event → Type 0
EndRecords (Trapped trap value) pc after events =
    (e : Entry) → HasEntry e events → IsRecordOfTrap trap pc after e
EndRecords _ pc after events = Unit {0}

-- a trap is recorded, where it is, with the address at which it was taken, that of its handler, and
-- type 1 for an exception, 2 for an interrupt
abbrev pub TrapsRecordThemselves : Type 0
TrapsRecordThemselves = (pending : ℕ) (s : MachineState) →
    EndRecords (ending pending s) s.core.pc (next pending s).core.pc (events_of pending s)

-- where SRET goes to: in VS by the registers of VS
abbrev pub supervisor_return_place : Mode → CoreState → ℕ
supervisor_return_place Vs c = c.csrs.vsepc
supervisor_return_place _ c = c.csrs.sepc

-- where an instruction goes to that takes no trap; the test is whether a branch is taken
abbrev pub destination : Instr → Bool → CoreState → ℕ
destination (Jal rd off) taken c = plus c.pc off
destination (Jalr rd rs1 off) taken c = plus (value_in c.x rs1) off / 2 * 2
destination (Branch condition rs1 rs2 off) taken c = cond taken (plus c.pc off) (plus c.pc 4)
destination Mret taken c = c.csrs.mepc
destination Sret taken c = supervisor_return_place c.mode c
destination _ taken c = plus c.pc 4

-- a step that takes no trap goes there
abbrev pub StepsGoToTheirDestinations : Type 0
StepsGoToTheirDestinations = (pending : ℕ) (s : MachineState) (i : Instr) →
    instruction_at pending s ≡ Some i → TakesNoTrap (ending pending s)
    → (next pending s).core.pc ≡ destination i (is_taken s.core.x i) s.core
