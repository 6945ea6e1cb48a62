-- A unit while its entries are gone through from the youngest on. The select 0x200 names the youngest entry, 0x201 the
-- next, and so on (RISC-V Control Transfer Records 1.0, "Entry Registers").
use Rattle.std.specs.Prelude.{ℕ, zero, suc, ◌+◌, List, ◌++◌, take, drop}
use Rattle.ctr_buffer.specs.Entry.{Entry}
use Rattle.ctr_buffer.specs.Stack.{size_of}
use Rattle.indirect_regs.specs.Unit.{UnitState}

-- the select after as many entries were gone through, where it was s before
abbrev pub select_after : ℕ → ℕ → ℕ
select_after zero s = s
select_after (suc i) s = 512 + i

-- the unit after as many entries were read
abbrev pub passed : ℕ → UnitState → UnitState
passed i u = record u { select = select_after i u.select }

-- the unit after as many entries were written
abbrev pub filled : ℕ → List Entry → UnitState → UnitState
filled i xs u = record u { select = select_after i u.select; stack = record { depth = u.stack.depth; slots = take i xs ++ drop i u.stack.slots; pointer = u.stack.pointer } }

-- the unit with the select at its last entry
abbrev pub with_last_select : UnitState → UnitState
with_last_select u = record u { select = 511 + size_of u.stack }
