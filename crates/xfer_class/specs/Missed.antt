-- Which transfers the static predictor of this project misses. RISC-V Control Transfer Records 1.0
-- (transfer target) leaves the predictor to the implementation: here a branch backward is predicted
-- taken and any other not.
use Rattle.std.specs.Prelude.{ℕ, ◌^◌, Bool, true, false, not, leb}
use Rattle.rv_decode.specs.declared.instruction.Instr.{Instr}
use Rattle.rv_decode.specs.declared.instruction.Instr.TheVariants.{Branch}

-- the offset is negative, as 64 bits in two's complement
abbrev pub is_backward : ℕ → Bool
is_backward off = leb (2 ^ 63) off

-- the outcome of the instruction is another than the predicted one; the test is whether a branch
-- was taken
abbrev pub missed_of : Instr → Bool → Bool
missed_of (Branch condition rs1 rs2 off) true = not (is_backward off)
missed_of (Branch condition rs1 rs2 off) false = is_backward off
missed_of _ taken = false
