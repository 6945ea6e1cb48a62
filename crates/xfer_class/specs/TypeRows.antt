-- The table of transfer types (RISC-V Control Transfer Records 1.0, transfer types): rows by register numbers, in no order.
use Rattle.std.specs.Prelude.{ℕ, ◌≡◌, ◌≢◌, ◌⊎◌, Bool, true, false}
use Rattle.rv_decode.specs.declared.instruction.Instr.{Instr}
use Rattle.rv_decode.specs.declared.instruction.Instr.TheVariants.{Jal, Jalr, Branch, Mret, Sret}
use Rattle.xfer_class.specs.declared.types.XferType.{XferType}
use Rattle.xfer_class.specs.declared.types.XferType.TheVariants.{TrapReturn, NotTaken, Taken, IndirectCall, DirectCall, IndirectJump, DirectJump, Swap, Return, IndirectLinkJump, DirectLinkJump}

abbrev pub JalRow : ℕ → XferType → Type 0
JalRow rd DirectCall = (rd ≡ 1) ⊎ (rd ≡ 5)
JalRow rd DirectJump = rd ≡ 0
JalRow rd DirectLinkJump = (rd ≢ 0) × (rd ≢ 1) × (rd ≢ 5)
JalRow rd _ = ⊥

abbrev pub JalrRow : ℕ → ℕ → XferType → Type 0
JalrRow rd rs1 IndirectCall = ((rd ≡ 1) × (rs1 ≢ 5)) ⊎ ((rd ≡ 5) × (rs1 ≢ 1))
JalrRow rd rs1 Swap = ((rd ≡ 1) × (rs1 ≡ 5)) ⊎ ((rd ≡ 5) × (rs1 ≡ 1))
JalrRow rd rs1 Return = ((rs1 ≡ 1) ⊎ (rs1 ≡ 5)) × (rd ≢ 1) × (rd ≢ 5)
JalrRow rd rs1 IndirectJump = (rd ≡ 0) × (rs1 ≢ 1) × (rs1 ≢ 5)
JalrRow rd rs1 IndirectLinkJump = (rd ≢ 0) × (rd ≢ 1) × (rd ≢ 5) × (rs1 ≢ 1) × (rs1 ≢ 5)
JalrRow rd rs1 _ = ⊥

abbrev pub BranchRow : Bool → XferType → Type 0
BranchRow taken Taken = taken ≡ true
BranchRow taken NotTaken = taken ≡ false
BranchRow taken _ = ⊥

-- the instruction's transfer is of this type; the test is whether a branch was taken
abbrev pub HasType : Instr → Bool → XferType → Type 0
HasType (Jal rd off) taken t = JalRow rd t
HasType (Jalr rd rs1 off) taken t = JalrRow rd rs1 t
HasType (Branch condition rs1 rs2 off) taken t = BranchRow taken t
HasType Mret taken t = t ≡ TrapReturn
HasType Sret taken t = t ≡ TrapReturn
HasType _ taken t = ⊥

-- the instruction is neither JAL, JALR, a branch, MRET nor SRET
abbrev pub HasNoType : Instr → Type 0
HasNoType (Jal rd off) = ⊥
HasNoType (Jalr rd rs1 off) = ⊥
HasNoType (Branch condition rs1 rs2 off) = ⊥
HasNoType Mret = ⊥
HasNoType Sret = ⊥
HasNoType _ = Unit {0}
