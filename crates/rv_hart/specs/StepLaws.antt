-- Laws of one step, in the words of the standards (RISC-V Unprivileged ISA, "Exceptions, Traps, and
-- Interrupts", "Programmers' Model for Base Integer ISA" and "Zicsr"; Control Transfer Records 1.0, "Entry
-- Registers").
use Rattle.std.specs.Prelude.{◌≡◌, ℕ, ◌-◌, ◌^◌, ◌≤◌, Bool, true, cond, not, nat_eq, List, length, slice_index, Option, Some, None, bit_and, bit_or}
use Rattle.indirect_regs.specs.Access.{is_write, new_value}
use Rattle.rv_decode.specs.declared.instruction.CsrArg.{CsrArg}
use Rattle.rv_decode.specs.declared.instruction.CsrArg.TheVariants.{Reg, Imm}
use Rattle.rv_decode.specs.declared.instruction.Instr.{Instr}
use Rattle.rv_decode.specs.declared.operations.CsrOp.{CsrOp}
use Rattle.rv_decode.specs.declared.operations.CsrOp.TheVariants.{Write, Set, Clear}
use Rattle.rv_hart.specs.declared.outcome.Outcome.{Outcome}
use Rattle.rv_hart.specs.declared.outcome.Outcome.TheVariants.{Goes, Returns, Raises}
use Rattle.rv_hart.specs.Processor.{CoreState}
use Rattle.rv_hart.specs.Effect.{Effect, effect}
use Rattle.rv_hart.specs.Step.{MachineState, next, events_of, operand, use_of}

-- every register and every byte of memory is as it was, unless the instruction goes on at an address
abbrev pub Leaves : Outcome → Effect → CoreState → List ℕ → Type 0
Leaves (Goes kind pc) e c bytes = Unit {0}
Leaves (Returns ret) e c bytes = (e.core ≡ c) × (e.bytes ≡ bytes)
Leaves (Raises cause value) e c bytes = (e.core ≡ c) × (e.bytes ≡ bytes)

-- an instruction that returns from a trap or raises an exception writes neither a register nor memory
abbrev pub ExceptionsWriteNothing : Type 0
ExceptionsWriteNothing =
    (i : Instr) (word : ℕ) (c : CoreState) (bytes : List ℕ) → Leaves (effect i word c bytes).outcome (effect i word c bytes) c bytes

-- memory keeps its size
abbrev pub MemoryKeepsItsSize : Type 0
MemoryKeepsItsSize = (pending : ℕ) (s : MachineState) → length (next pending s).mem ≡ length s.mem

-- no step changes x0
abbrev pub NoStepChangesX0 : Type 0
NoStepChangesX0 = (pending : ℕ) (s : MachineState) → slice_index (next pending s).core.x 0 ≡ slice_index s.core.x 0

-- a step is at most one event of the record buffer
abbrev pub AtMostOneEvent : Type 0
AtMostOneEvent = (pending : ℕ) (s : MachineState) → length (events_of pending s) ≤ 1

-- whether a CSR instruction writes: CSRRW and CSRRWI always do, CSRRS and CSRRC unless the number of
-- rs1 is 0, CSRRSI and CSRRCI unless the immediate is, whatever rs1 and the register hold
abbrev pub does_write : CsrOp → CsrArg → Bool
does_write Write arg = true
does_write Set (Reg r) = not (nat_eq r 0)
does_write Set (Imm n) = not (nat_eq n 0)
does_write Clear (Reg r) = not (nat_eq r 0)
does_write Clear (Imm n) = not (nat_eq n 0)

-- what it writes over an old value
abbrev pub written_over : CsrOp → ℕ → ℕ → ℕ
written_over Write old bits = bits
written_over Set old bits = bit_or old bits
written_over Clear old bits = bit_and old (2 ^ 64 - 1 - bits)

pub record UsesRegister (op : CsrOp) (arg : CsrArg) (c : CoreState) (old : ℕ) : Type 0 where
  pub writes : is_write (use_of op arg c) ≡ does_write op arg
  pub value : new_value (use_of op arg c) old
      ≡ cond (does_write op arg) (Some (written_over op old (operand arg c))) None

abbrev pub AccessesWriteByNumber : Type 0
AccessesWriteByNumber =
    (op : CsrOp) (arg : CsrArg) (c : CoreState) (old : ℕ) → UsesRegister op arg c old
