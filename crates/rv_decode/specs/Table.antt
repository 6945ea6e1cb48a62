-- The table of instructions (Unprivileged ISA: RV64I, M, Zifencei, Zicsr; Privileged Architecture: MRET, SRET, WFI;
-- Control Transfer Records 1.0: SCTRCLR). A word is an instruction where it passes the tests of a row.
use Rattle.std.specs.Prelude.{ℕ, List, [], ◌∷◌, Bool, true, false}
use Rattle.ctr_bits.specs.Field.{field_of}
use Rattle.rv_decode.specs.Formats.{imm_i_of, imm_s_of, imm_b_of, imm_u_of, imm_j_of}
use Rattle.rv_decode.specs.declared.instruction.Instr.{Instr}
use Rattle.rv_decode.specs.declared.instruction.Instr.TheVariants.{Lui, Auipc, Jal, Jalr, Branch, Load, Store, AluImm, Alu, Csr, Fence, FenceI, Ecall, Ebreak, Mret, Sret, Wfi, CtrClr}
use Rattle.rv_decode.specs.declared.instruction.CsrArg.TheVariants.{Reg, Imm}
use Rattle.rv_decode.specs.declared.operations.Cond.{Cond}
use Rattle.rv_decode.specs.declared.operations.Cond.TheVariants.{Eq, Ne, Lt, Ge, Ltu, Geu}
use Rattle.rv_decode.specs.declared.operations.Width.{Width}
use Rattle.rv_decode.specs.declared.operations.Width.TheVariants.{B, H, W, D}
use Rattle.rv_decode.specs.declared.operations.AluOp.{AluOp}
use Rattle.rv_decode.specs.declared.operations.AluOp.TheVariants.{Add, Sub, Sll, Slt, Sltu, Xor, Srl, Sra, Or, And, Addw, Subw, Sllw, Srlw, Sraw, Mul, Mulh, Mulhsu, Mulhu, Div, Divu, Rem, Remu, Mulw, Divw, Divuw, Remw, Remuw}
use Rattle.rv_decode.specs.declared.operations.CsrOp.{CsrOp}
use Rattle.rv_decode.specs.declared.operations.CsrOp.TheVariants.{Write, Set, Clear}

-- the field of len bits from bit lo up has this value
pub record Test : Type 0 where
  pub lo : ℕ
  pub len : ℕ
  pub value : ℕ

-- what a word must pass, and the instruction that it then is
pub record Rule : Type 0 where
  pub tests : List Test
  pub gives : ℕ → Instr

abbrev pub opcode_is : ℕ → Test
opcode_is v = record { lo = 0; len = 7; value = v }

abbrev pub funct3_is : ℕ → Test
funct3_is v = record { lo = 12; len = 3; value = v }

abbrev pub funct6_is : ℕ → Test
funct6_is v = record { lo = 26; len = 6; value = v }

abbrev pub funct7_is : ℕ → Test
funct7_is v = record { lo = 25; len = 7; value = v }

abbrev pub word_is : ℕ → Test
word_is v = record { lo = 0; len = 32; value = v }

abbrev pub rd_of : ℕ → ℕ
rd_of w = field_of 7 5 w

abbrev pub rs1_of : ℕ → ℕ
rs1_of w = field_of 15 5 w

abbrev pub rs2_of : ℕ → ℕ
rs2_of w = field_of 20 5 w

abbrev pub csr_of : ℕ → ℕ
csr_of w = field_of 20 12 w

-- rows by their opcode, funct3 and funct7, in the manner of the manual's listing
abbrev pub row : List Test → (ℕ → Instr) → Rule
row tests gives = record { tests = tests; gives = gives }

abbrev pub branch : ℕ → Cond → Rule
branch f3 cond = row (opcode_is 0x63 ∷ funct3_is f3 ∷ []) (λ w. Branch cond (rs1_of w) (rs2_of w) (imm_b_of w))

abbrev pub load : ℕ → Width → Bool → Rule
load f3 width signed = row (opcode_is 0x03 ∷ funct3_is f3 ∷ []) (λ w. Load width signed (rd_of w) (rs1_of w) (imm_i_of w))

abbrev pub store : ℕ → Width → Rule
store f3 width = row (opcode_is 0x23 ∷ funct3_is f3 ∷ []) (λ w. Store width (rs1_of w) (rs2_of w) (imm_s_of w))

abbrev pub immediate : ℕ → ℕ → AluOp → Rule
immediate op f3 alu = row (opcode_is op ∷ funct3_is f3 ∷ []) (λ w. AluImm alu (rd_of w) (rs1_of w) (imm_i_of w))

-- a shift by 0 to 63, bits 25:20
abbrev pub shift : ℕ → ℕ → AluOp → Rule
shift f3 f6 alu = row (opcode_is 0x13 ∷ funct3_is f3 ∷ funct6_is f6 ∷ []) (λ w. AluImm alu (rd_of w) (rs1_of w) (field_of 20 6 w))

-- a shift of 32 bits by 0 to 31, bits 24:20
abbrev pub shift_32 : ℕ → ℕ → AluOp → Rule
shift_32 f3 f7 alu = row (opcode_is 0x1B ∷ funct3_is f3 ∷ funct7_is f7 ∷ []) (λ w. AluImm alu (rd_of w) (rs1_of w) (field_of 20 5 w))

abbrev pub registers : ℕ → ℕ → ℕ → AluOp → Rule
registers op f7 f3 alu = row (opcode_is op ∷ funct3_is f3 ∷ funct7_is f7 ∷ []) (λ w. Alu alu (rd_of w) (rs1_of w) (rs2_of w))

abbrev pub csr_register : ℕ → CsrOp → Rule
csr_register f3 op = row (opcode_is 0x73 ∷ funct3_is f3 ∷ []) (λ w. Csr op (rd_of w) (Reg (rs1_of w)) (csr_of w))

abbrev pub csr_immediate : ℕ → CsrOp → Rule
csr_immediate f3 op = row (opcode_is 0x73 ∷ funct3_is f3 ∷ []) (λ w. Csr op (rd_of w) (Imm (rs1_of w)) (csr_of w))

-- one whole word; its opcode and funct3 are tested first, as in every row
abbrev pub single : ℕ → Instr → Rule
single word i = row (opcode_is 0x73 ∷ funct3_is 0 ∷ word_is word ∷ []) (λ w. i)

abbrev pub table : List Rule
table =
    row (opcode_is 0x37 ∷ []) (λ w. Lui (rd_of w) (imm_u_of w))
    ∷ row (opcode_is 0x17 ∷ []) (λ w. Auipc (rd_of w) (imm_u_of w))
    ∷ row (opcode_is 0x6F ∷ []) (λ w. Jal (rd_of w) (imm_j_of w))
    ∷ row (opcode_is 0x67 ∷ funct3_is 0 ∷ []) (λ w. Jalr (rd_of w) (rs1_of w) (imm_i_of w))
    ∷ branch 0 Eq
    ∷ branch 1 Ne
    ∷ branch 4 Lt
    ∷ branch 5 Ge
    ∷ branch 6 Ltu
    ∷ branch 7 Geu
    ∷ load 0 B true
    ∷ load 1 H true
    ∷ load 2 W true
    ∷ load 3 D true
    ∷ load 4 B false
    ∷ load 5 H false
    ∷ load 6 W false
    ∷ store 0 B
    ∷ store 1 H
    ∷ store 2 W
    ∷ store 3 D
    ∷ immediate 0x13 0 Add
    ∷ immediate 0x13 2 Slt
    ∷ immediate 0x13 3 Sltu
    ∷ immediate 0x13 4 Xor
    ∷ immediate 0x13 6 Or
    ∷ immediate 0x13 7 And
    ∷ shift 1 0x00 Sll
    ∷ shift 5 0x00 Srl
    ∷ shift 5 0x10 Sra
    ∷ immediate 0x1B 0 Addw
    ∷ shift_32 1 0x00 Sllw
    ∷ shift_32 5 0x00 Srlw
    ∷ shift_32 5 0x20 Sraw
    ∷ registers 0x33 0x00 0 Add
    ∷ registers 0x33 0x20 0 Sub
    ∷ registers 0x33 0x00 1 Sll
    ∷ registers 0x33 0x00 2 Slt
    ∷ registers 0x33 0x00 3 Sltu
    ∷ registers 0x33 0x00 4 Xor
    ∷ registers 0x33 0x00 5 Srl
    ∷ registers 0x33 0x20 5 Sra
    ∷ registers 0x33 0x00 6 Or
    ∷ registers 0x33 0x00 7 And
    ∷ registers 0x33 0x01 0 Mul
    ∷ registers 0x33 0x01 1 Mulh
    ∷ registers 0x33 0x01 2 Mulhsu
    ∷ registers 0x33 0x01 3 Mulhu
    ∷ registers 0x33 0x01 4 Div
    ∷ registers 0x33 0x01 5 Divu
    ∷ registers 0x33 0x01 6 Rem
    ∷ registers 0x33 0x01 7 Remu
    ∷ registers 0x3B 0x00 0 Addw
    ∷ registers 0x3B 0x20 0 Subw
    ∷ registers 0x3B 0x00 1 Sllw
    ∷ registers 0x3B 0x00 5 Srlw
    ∷ registers 0x3B 0x20 5 Sraw
    ∷ registers 0x3B 0x01 0 Mulw
    ∷ registers 0x3B 0x01 4 Divw
    ∷ registers 0x3B 0x01 5 Divuw
    ∷ registers 0x3B 0x01 6 Remw
    ∷ registers 0x3B 0x01 7 Remuw
    ∷ row (opcode_is 0x0F ∷ funct3_is 0 ∷ []) (λ w. Fence)
    ∷ row (opcode_is 0x0F ∷ funct3_is 1 ∷ []) (λ w. FenceI)
    ∷ csr_register 1 Write
    ∷ csr_register 2 Set
    ∷ csr_register 3 Clear
    ∷ csr_immediate 5 Write
    ∷ csr_immediate 6 Set
    ∷ csr_immediate 7 Clear
    ∷ single 0x00000073 Ecall
    ∷ single 0x00100073 Ebreak
    ∷ single 0x10200073 Sret
    ∷ single 0x30200073 Mret
    ∷ single 0x10500073 Wfi
    ∷ single 0x10400073 CtrClr
    ∷ []
