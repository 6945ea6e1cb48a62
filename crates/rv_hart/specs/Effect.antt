-- What an instruction does to the registers and to memory, and how it goes on (RISC-V Unprivileged ISA, RV64I, M and
-- Zifencei; Privileged Architecture for ECALL and the trap returns). CSR instructions and SCTRCLR stand in Step.
use Rattle.std.specs.Prelude.{◌≡◌, IsTrue, ℕ, ◌*◌, ◌/◌, ◌%◌, Bool, true, false, cond, nat_eq, List, length, Option, Some, None}
use Rattle.std.specs.Option.{IfSome}
use Rattle.ctr_csrs.specs.declared.mode.Mode.{Mode}
use Rattle.ctr_csrs.specs.declared.mode.Mode.TheVariants as modes
use Rattle.guest_modes.specs.declared.causes.TheConstants.{BREAKPOINT, ENVIRONMENT_CALL_FROM_M, ENVIRONMENT_CALL_FROM_S, ENVIRONMENT_CALL_FROM_U, ENVIRONMENT_CALL_FROM_VS, ILLEGAL_INSTRUCTION, INSTRUCTION_ADDRESS_MISALIGNED, LOAD_ACCESS_FAULT, LOAD_ADDRESS_MISALIGNED, STORE_ACCESS_FAULT, STORE_ADDRESS_MISALIGNED, VIRTUAL_INSTRUCTION}
use Rattle.guest_modes.specs.declared.returning.Ret.TheVariants as rets
use Rattle.guest_modes.specs.declared.targets.Trap.TheVariants.{Exception}
use Rattle.guest_modes.specs.Traps.{is_cause}
use Rattle.rv_decode.specs.declared.instruction.Instr.{Instr}
use Rattle.rv_decode.specs.declared.instruction.Instr.TheVariants.{Lui, Auipc, Jal, Jalr, Branch, Load, Store, AluImm, Alu, Ecall, Ebreak, Mret, Sret}
use Rattle.rv_decode.specs.declared.operations.Width.{Width}
use Rattle.rv_alu.specs.Value.{value}
use Rattle.rv_alu.specs.Holds.{holds}
use Rattle.xfer_class.specs.declared.types.XferType.{XferType}
use Rattle.xfer_class.specs.Types.{type_of}
use Rattle.xfer_class.specs.Missed.{missed_of}
use Rattle.ctr_rules.specs.Admitted.{is_branch}
use Rattle.rv_hart.specs.declared.outcome.Jump.{Jump}
use Rattle.rv_hart.specs.declared.outcome.Outcome.{Outcome}
use Rattle.rv_hart.specs.declared.outcome.Outcome.TheVariants.{Goes, Returns, Raises}
use Rattle.rv_hart.specs.Memory.{bytes_of, place_of, loaded, stored}
use Rattle.rv_hart.specs.Processor.{CoreState, plus, reg, put}

-- only a branch is missed by the predictor
abbrev pub IsJump : Jump → Type 0
IsJump j = j.misp ≡ true → is_branch j.kind ≡ true

-- what holds of every outcome: addresses of instructions are multiples of 4, and exceptions are those of the architecture
abbrev pub IsSound : Outcome → Type 0
IsSound (Goes jump pc) = (pc % 4 ≡ 0) × IfSome jump IsJump
IsSound (Returns ret) = Unit {0}
IsSound (Raises cause value) = IsTrue (is_cause (Exception cause))

-- what an instruction leaves: the core, with the program counter and the mode of the instruction; the memory; and how it
-- goes on
pub record Effect : Type 0 where
  pub core : CoreState
  pub bytes : List ℕ
  pub outcome : Outcome

-- an exception: no register and no byte of memory is changed
abbrev pub raises : ℕ → ℕ → CoreState → List ℕ → Effect
raises cause value c bytes = record { core = c; bytes = bytes; outcome = Raises cause value }

-- the next instruction comes
abbrev pub goes_on : CoreState → List ℕ → Effect
goes_on c bytes = record { core = c; bytes = bytes; outcome = Goes None (plus c.pc 4) }

-- a value is written to rd
abbrev pub gives : ℕ → ℕ → CoreState → List ℕ → Effect
gives rd value c bytes = goes_on (put c rd value) bytes

-- with bit 0 cleared
abbrev pub even : ℕ → ℕ
even n = n / 2 * 2

-- the jump or branch that an instruction is: its type, and whether the predictor missed it; the test is whether a branch
-- was taken
abbrev pub jump_with : Bool → Option XferType → Option Jump
jump_with misp None = None
jump_with misp (Some kind) = Some (record { kind = kind; misp = misp })

abbrev pub jump_of : Instr → Bool → Option Jump
jump_of i taken = jump_with (missed_of i taken) (type_of i taken)

-- a jump or branch to a target
abbrev pub goes_to : Option Jump → ℕ → CoreState → List ℕ → Effect
goes_to jump target c bytes = record { core = c; bytes = bytes; outcome = Goes jump target }

-- a jump to a target, which must be a multiple of 4, with the address after the jump in rd
abbrev pub jumps : Option Jump → ℕ → ℕ → CoreState → List ℕ → Effect
jumps jump rd target c bytes =
    cond (nat_eq (target % 4) 0) (goes_to jump target (put c rd (plus c.pc 4)) bytes) (raises INSTRUCTION_ADDRESS_MISALIGNED target c bytes)

-- a branch that is taken, to a target that must be a multiple of 4, or one that isn't taken
abbrev pub branches : Bool → Option Jump → ℕ → CoreState → List ℕ → Effect
branches true jump target c bytes = cond (nat_eq (target % 4) 0) (goes_to jump target c bytes) (raises INSTRUCTION_ADDRESS_MISALIGNED target c bytes)
branches false jump target c bytes = goes_to jump (plus c.pc 4) c bytes

-- a load from a place, if it is one
abbrev pub loads_at : Option ℕ → Width → Bool → ℕ → ℕ → CoreState → List ℕ → Effect
loads_at (Some at) width signed rd address c bytes = gives rd (loaded width signed bytes at) c bytes
loads_at None width signed rd address c bytes = raises LOAD_ACCESS_FAULT address c bytes

-- a load from an address, which must be a multiple of the width
abbrev pub loads : Width → Bool → ℕ → ℕ → CoreState → List ℕ → Effect
loads width signed rd address c bytes =
    cond (nat_eq (address % bytes_of width) 0) (loads_at (place_of (length bytes) address (bytes_of width)) width signed rd address c bytes) (raises LOAD_ADDRESS_MISALIGNED address c bytes)

-- a store to a place, if it is one
abbrev pub stores_at : Option ℕ → Width → ℕ → ℕ → CoreState → List ℕ → Effect
stores_at (Some at) width value address c bytes = goes_on c (stored width value bytes at)
stores_at None width value address c bytes = raises STORE_ACCESS_FAULT address c bytes

-- a store to an address, which must be a multiple of the width
abbrev pub stores : Width → ℕ → ℕ → CoreState → List ℕ → Effect
stores width value address c bytes =
    cond (nat_eq (address % bytes_of width) 0) (stores_at (place_of (length bytes) address (bytes_of width)) width value address c bytes) (raises STORE_ADDRESS_MISALIGNED address c bytes)

-- the exception of an environment call
abbrev pub call_cause : Mode → ℕ
call_cause modes.M = ENVIRONMENT_CALL_FROM_M
call_cause modes.S = ENVIRONMENT_CALL_FROM_S
call_cause modes.U = ENVIRONMENT_CALL_FROM_U
call_cause modes.Vs = ENVIRONMENT_CALL_FROM_VS
call_cause modes.Vu = ENVIRONMENT_CALL_FROM_U

-- MRET returns in M; elsewhere it is an illegal instruction
abbrev pub machine_return : Mode → ℕ → Outcome
machine_return modes.M word = Returns rets.Mret
machine_return _ word = Raises ILLEGAL_INSTRUCTION word

-- SRET returns in M and S, and in VS within the guest; it is illegal in U, and a virtual instruction in VU
abbrev pub supervisor_return : Mode → ℕ → Outcome
supervisor_return modes.M word = Returns rets.SretHs
supervisor_return modes.S word = Returns rets.SretHs
supervisor_return modes.U word = Raises ILLEGAL_INSTRUCTION word
supervisor_return modes.Vs word = Returns rets.SretVs
supervisor_return modes.Vu word = Raises VIRTUAL_INSTRUCTION word

-- the effect of an instruction, whose word is given too; FENCE, FENCE.I and WFI have none
abbrev pub effect : Instr → ℕ → CoreState → List ℕ → Effect
effect (Lui rd imm) word c bytes = gives rd imm c bytes
effect (Auipc rd imm) word c bytes = gives rd (plus c.pc imm) c bytes
effect (Jal rd off) word c bytes = jumps (jump_of (Jal rd off) false) rd (plus c.pc off) c bytes
effect (Jalr rd rs1 off) word c bytes = jumps (jump_of (Jalr rd rs1 off) false) rd (even (plus (reg c rs1) off)) c bytes
effect (Branch condition rs1 rs2 off) word c bytes =
    let taken = holds condition (reg c rs1) (reg c rs2) in
    branches taken (jump_of (Branch condition rs1 rs2 off) taken) (plus c.pc off) c bytes
effect (Load width signed rd rs1 off) word c bytes = loads width signed rd (plus (reg c rs1) off) c bytes
effect (Store width rs1 rs2 off) word c bytes = stores width (reg c rs2) (plus (reg c rs1) off) c bytes
effect (AluImm op rd rs1 imm) word c bytes = gives rd (value op (reg c rs1) imm) c bytes
effect (Alu op rd rs1 rs2) word c bytes = gives rd (value op (reg c rs1) (reg c rs2)) c bytes
effect Ecall word c bytes = raises (call_cause c.mode) 0 c bytes
effect Ebreak word c bytes = raises BREAKPOINT 0 c bytes
effect Mret word c bytes = record { core = c; bytes = bytes; outcome = machine_return c.mode word }
effect Sret word c bytes = record { core = c; bytes = bytes; outcome = supervisor_return c.mode word }
effect _ word c bytes = goes_on c bytes
