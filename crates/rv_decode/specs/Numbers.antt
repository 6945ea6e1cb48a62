-- The ranges of register numbers, of immediates of CSR instructions and of numbers of CSRs (RISC-V
-- Unprivileged ISA, base instruction formats and "Zicsr").
use Rattle.std.specs.Prelude.{◌<◌}
use Rattle.rv_decode.specs.declared.instruction.Instr.{Instr}
use Rattle.rv_decode.specs.declared.instruction.Instr.TheVariants.{Lui, Auipc, Jal, Jalr, Branch, Load, Store, AluImm, Alu, Csr, Fence, FenceI, Ecall, Ebreak, Mret, Sret, Wfi, CtrClr}
use Rattle.rv_decode.specs.declared.instruction.CsrArg.{CsrArg}
use Rattle.rv_decode.specs.declared.instruction.CsrArg.TheVariants.{Reg, Imm}

abbrev pub OperandFits : CsrArg → Type 0
OperandFits (Reg r) = r < 32
OperandFits (Imm n) = n < 32

abbrev pub NumbersFit : Instr → Type 0
NumbersFit (Lui rd imm) = rd < 32
NumbersFit (Auipc rd imm) = rd < 32
NumbersFit (Jal rd off) = rd < 32
NumbersFit (Jalr rd rs1 off) = (rd < 32) × (rs1 < 32)
NumbersFit (Branch cond rs1 rs2 off) = (rs1 < 32) × (rs2 < 32)
NumbersFit (Load width signed rd rs1 off) = (rd < 32) × (rs1 < 32)
NumbersFit (Store width rs1 rs2 off) = (rs1 < 32) × (rs2 < 32)
NumbersFit (AluImm op rd rs1 imm) = (rd < 32) × (rs1 < 32)
NumbersFit (Alu op rd rs1 rs2) = (rd < 32) × (rs1 < 32) × (rs2 < 32)
NumbersFit (Csr op rd arg csr) = (rd < 32) × OperandFits arg × (csr < 4096)
NumbersFit Fence = Unit {0}
NumbersFit FenceI = Unit {0}
NumbersFit Ecall = Unit {0}
NumbersFit Ebreak = Unit {0}
NumbersFit Mret = Unit {0}
NumbersFit Sret = Unit {0}
NumbersFit Wfi = Unit {0}
NumbersFit CtrClr = Unit {0}
