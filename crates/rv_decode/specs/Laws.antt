-- Laws of the table of instructions (RISC-V Unprivileged ISA, "RV32/64G Instruction Set Listings").
use Rattle.std.specs.Prelude.{ℕ, ◌≡◌, IfSome}
use Rattle.rv_decode.specs.declared.instruction.Instr.{Instr}
use Rattle.rv_decode.specs.Table.{table}
use Rattle.rv_decode.specs.Rows.{Row, RowAt, instruction_of}
use Rattle.rv_decode.specs.Numbers.{NumbersFit}
use Rattle.rv_decode.specs.WordFits.{WordsFit}

-- no word has two rows
abbrev pub OneRow : Type 0
OneRow = (w one other : ℕ) → RowAt table one w → RowAt table other w → one ≡ other

-- no word is two instructions
abbrev pub OneInstr : Type 0
OneInstr = (w : ℕ) (one other : Instr) → Row w one → Row w other → one ≡ other

-- what a row gives has its numbers in range
abbrev pub RowsFit : Type 0
RowsFit = (w : ℕ) (i : Instr) → Row w i → NumbersFit i

-- and its immediates words of 64 bits
abbrev pub RowWordsFit : Type 0
RowWordsFit = (w : ℕ) (i : Instr) → Row w i → WordsFit i

-- the same of what a word is instruction_of to
abbrev pub DecodedWordsFit : Type 0
DecodedWordsFit = (w : ℕ) → IfSome (instruction_of w) WordsFit
