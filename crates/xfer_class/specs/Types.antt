-- Transfer types and their numbers (RISC-V Control Transfer Records 1.0, transfer types), as functions.
use Rattle.std.specs.Prelude.{ℕ, Bool, cond, nat_eq, ◌&&◌, ◌||◌, not, Option, None, Some}
use Rattle.rv_decode.specs.declared.instruction.Instr.{Instr}
use Rattle.rv_decode.specs.declared.instruction.Instr.TheVariants.{Jal, Jalr, Branch, Mret, Sret}
use Rattle.xfer_class.specs.declared.types.XferType.{XferType}
use Rattle.xfer_class.specs.declared.types.XferType.TheVariants.{Exception, Interrupt, TrapReturn, NotTaken, Taken, IndirectCall, DirectCall, IndirectJump, DirectJump, Swap, Return, IndirectLinkJump, DirectLinkJump}

abbrev pub code_of : XferType → ℕ
code_of Exception = 1
code_of Interrupt = 2
code_of TrapReturn = 3
code_of NotTaken = 4
code_of Taken = 5
code_of IndirectCall = 8
code_of DirectCall = 9
code_of IndirectJump = 10
code_of DirectJump = 11
code_of Swap = 12
code_of Return = 13
code_of IndirectLinkJump = 14
code_of DirectLinkJump = 15

-- the link registers of the calling convention, x1 and x5
abbrev pub link : ℕ → Bool
link r = nat_eq r 1 || nat_eq r 5

abbrev pub jal_type : ℕ → XferType
jal_type rd = cond (link rd) DirectCall (cond (nat_eq rd 0) DirectJump DirectLinkJump)

abbrev pub jalr_type : ℕ → ℕ → XferType
jalr_type rd rs1 =
    cond (link rd)
    (cond (link rs1 && not (nat_eq rd rs1)) Swap IndirectCall)
    (cond (link rs1) Return (cond (nat_eq rd 0) IndirectJump IndirectLinkJump))

-- the type of an instruction's transfer; the test is whether a branch was taken
abbrev pub type_of : Instr → Bool → Option XferType
type_of (Jal rd off) taken = Some (jal_type rd)
type_of (Jalr rd rs1 off) taken = Some (jalr_type rd rs1)
type_of (Branch condition rs1 rs2 off) taken = Some (cond taken Taken NotTaken)
type_of Mret taken = Some TrapReturn
type_of Sret taken = Some TrapReturn
type_of _ taken = None
