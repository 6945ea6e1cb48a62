-- What the unit of a hart and an access to a register keep to (RISC-V Control Transfer Records 1.0,
-- "CSRs" and "Entry Registers").
use Rattle.std.specs.Prelude.{ℕ, ◌^◌, ◌<◌, Result, Ok, Err}
use Rattle.std.specs.Option.{IfSome}
use Rattle.ctr_csrs.specs.declared.mode.Mode.{Mode}
use Rattle.ctr_buffer.specs.Facts.{IsBuffer, IsEvent}
use Rattle.guest_modes.specs.declared.gating.CsrFault.{CsrFault}
use Rattle.guest_modes.specs.declared.registers.Priv.{Priv}
use Rattle.guest_modes.specs.Facts.{IsPriv}
use Rattle.indirect_regs.specs.declared.accessing.CsrUse.{CsrUse}
use Rattle.indirect_regs.specs.declared.accessing.CsrUse.TheVariants.{Read, Write, Set, Clear}
use Rattle.indirect_regs.specs.declared.port.PortReg.{PortReg}
use Rattle.indirect_regs.specs.Access.{AccessResult, access_of}
use Rattle.indirect_regs.specs.Ports.{after_write}
use Rattle.indirect_regs.specs.Unit.{UnitState, HasControls, CanTakeAny}

-- the controls and the select that the registers can hold, and a record buffer each of whose entries is one
pub record IsWholeUnit (u : UnitState) : Type 0 where
  pub controls : HasControls u
  pub buffer : IsBuffer u.stack

-- what an access is given, and what it answers, are words of 64 bits
abbrev pub UseFits : CsrUse → Type 0
UseFits Read = Unit {0}
UseFits (Write value) = value < 2 ^ 64
UseFits (Set bits) = bits < 2 ^ 64
UseFits (Clear bits) = bits < 2 ^ 64

abbrev pub AnswerFits : Result ℕ CsrFault → Type 0
AnswerFits (Ok value) = value < 2 ^ 64
AnswerFits (Err fault) = Unit {0}

-- what an access leaves of a unit: a unit, registers that hold what they can, and an event that the buffer can take
pub record IsAccessed (u : UnitState) (a : AccessResult) : Type 0 where
  pub answer : AnswerFits a.answer
  pub unit : IsWholeUnit a.unit
  pub registers : IsPriv a.registers
  pub event : IfSome a.event IsEvent
  pub can : CanTakeAny u.stack a.event

abbrev pub AccessesKeepFacts : Type 0
AccessesKeepFacts = (u : UnitState) (p : Priv) (mode : Mode) (csr : ℕ) (op : CsrUse) →
    IsWholeUnit u → IsPriv p → UseFits op → IsAccessed u (access_of u p mode csr op)

-- a monitor's write of a word keeps the unit one
abbrev pub MonitorKeepsFacts : Type 0
MonitorKeepsFacts = (reg : PortReg) (value : ℕ) (u : UnitState) →
    value < 2 ^ 64 → IsWholeUnit u → IsWholeUnit (after_write reg value u)
