-- The status register (RISC-V Control Transfer Records 1.0, register sctrstatus): WRPTR in bits 7:0, FROZEN in bit 31.
use Rattle.std.specs.Prelude.{ℕ, ◌+◌, ◌*◌, ◌%◌, ◌^◌, Bool, cond, nat_eq}
use Rattle.ctr_bits.specs.Field.{field_of}
use Rattle.ctr_csrs.specs.declared.depth.Depth.{Depth}
use Rattle.ctr_csrs.specs.declared.status.Status.{Status}
use Rattle.ctr_csrs.specs.Depths.{entries_of}

-- what the register holds for a write pointer and FROZEN
abbrev pub word_of : Status → ℕ
word_of s = s.wrptr + 2 ^ 31 * cond s.frozen 1 0

-- the write pointer of a word, kept modulo the number of entries
abbrev pub pointer_in : ℕ → Depth → ℕ
pointer_in word depth = field_of 0 8 word % entries_of depth

-- FROZEN of a word
abbrev pub frozen_in : ℕ → Bool
frozen_in word = nat_eq (field_of 31 1 word) 1
