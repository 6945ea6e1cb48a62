-- Immediates and offsets are words of 64 bits (Unprivileged ISA: each is sign-extended from a
-- narrower field).
use Rattle.std.specs.Prelude.{◌^◌, ◌<◌}
use Rattle.rv_decode.specs.declared.instruction.Instr.{Instr}
use Rattle.rv_decode.specs.declared.instruction.Instr.TheVariants.{Lui, Auipc, Jal, Jalr, Branch, Load, Store, AluImm, Csr}
use Rattle.rv_decode.specs.declared.instruction.CsrArg.TheVariants.{Imm}

abbrev pub WordsFit : Instr → Type 0
WordsFit (Lui rd imm) = imm < 2 ^ 64
WordsFit (Auipc rd imm) = imm < 2 ^ 64
WordsFit (Jal rd off) = off < 2 ^ 64
WordsFit (Jalr rd rs1 off) = off < 2 ^ 64
WordsFit (Branch cond rs1 rs2 off) = off < 2 ^ 64
WordsFit (Load width signed rd rs1 off) = off < 2 ^ 64
WordsFit (Store width rs1 rs2 off) = off < 2 ^ 64
WordsFit (AluImm op rd rs1 imm) = imm < 2 ^ 64
WordsFit (Csr op rd (Imm n) csr) = n < 2 ^ 64
WordsFit _ = Unit {0}
