-- The core of a hart: 32 registers, of which x0 is 0, the program counter, the mode, and the registers of its software.
use Rattle.std.specs.Prelude.{ℕ, ◌+◌, ◌%◌, ◌^◌, List, cond, nat_eq, replicate, slice_index, slice_set}
use Rattle.ctr_csrs.specs.declared.mode.Mode.{Mode}
use Rattle.ctr_csrs.specs.declared.mode.Mode.TheVariants.{M}
use Rattle.guest_modes.specs.declared.registers.Priv.{Priv}
use Rattle.guest_modes.specs.Fresh.{fresh_registers}
use Rattle.rv_hart.specs.Memory.{base}

pub record CoreState : Type 0 where
  pub x : List ℕ
  pub pc : ℕ
  pub mode : Mode
  pub csrs : Priv

-- a core that has executed nothing
abbrev pub fresh_core : CoreState
fresh_core = record { x = replicate 32 0; pc = base; mode = M; csrs = fresh_registers }

-- all arithmetic of addresses is modulo 2 ^ 64
abbrev pub plus : ℕ → ℕ → ℕ
plus a b = (a + b) % 2 ^ 64

-- the value of a register; x0 reads 0
abbrev pub reg : CoreState → ℕ → ℕ
reg c r = cond (nat_eq r 0) 0 (slice_index c.x r)

-- the core with a value written to a register; x0 ignores it
abbrev pub put : CoreState → ℕ → ℕ → CoreState
put c r value = record c { x = cond (nat_eq r 0) c.x (slice_set c.x r value) }

-- at the next instruction
abbrev pub at_next : CoreState → CoreState
at_next c = record c { pc = plus c.pc 4 }
