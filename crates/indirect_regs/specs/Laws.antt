-- Laws of accesses and of a monitor's port (RISC-V Control Transfer Records 1.0, "CSRs"; Privileged
-- Architecture, "CSR Listing" and "Indirect CSR Access", for the numbers).
use Rattle.std.specs.Prelude.{◌≡◌, ◌⊎◌, ℕ, true, Ok}
use Rattle.ctr_csrs.specs.declared.mode.Mode.{Mode}
use Rattle.ctr_csrs.specs.declared.mode.Mode.TheVariants as modes
use Rattle.guest_modes.specs.Gate.{gate_answer}
use Rattle.guest_modes.specs.declared.registers.Priv.{Priv}
use Rattle.indirect_regs.specs.declared.accessing.CsrUse.{CsrUse}
use Rattle.indirect_regs.specs.declared.accessing.CsrUse.TheVariants.{Read, Write}
use Rattle.indirect_regs.specs.declared.port.PortReg.{PortReg}
use Rattle.indirect_regs.specs.declared.port.PortReg.TheVariants.{Mctrctl, Vsctrctl, Depth, Status, Select, From, To, Kind}
use Rattle.indirect_regs.specs.Unit.{UnitState, after_any}
use Rattle.indirect_regs.specs.Ports.{read, after_write, Selects}
use Rattle.indirect_regs.specs.Access.{access_of, is_write}

-- the number of a monitor's register: mctrctl, vsctrctl, sctrdepth, sctrstatus, siselect, sireg, sireg2 and sireg3
abbrev pub number_of : PortReg → ℕ
number_of Mctrctl = 0x34E
number_of Vsctrctl = 0x24E
number_of Depth = 0x15F
number_of Status = 0x14F
number_of Select = 0x150
number_of From = 0x151
number_of To = 0x152
number_of Kind = 0x153

-- a monitor reads and writes what an access in M reads and writes, which leaves the other registers
pub record IsAccessInM (reg : PortReg) (u : UnitState) (p : Priv) (value : ℕ) : Type 0 where
  pub reads : (access_of u p modes.M (number_of reg) Read).answer ≡ Ok (read reg u)
  pub writes : (access_of u p modes.M (number_of reg) (Write value)).unit ≡ after_write reg value u
  pub others : (access_of u p modes.M (number_of reg) (Write value)).registers ≡ p

abbrev pub MonitorReachesAsM : Type 0
MonitorReachesAsM = (reg : PortReg) (u : UnitState) (p : Priv) (value : ℕ) → Selects reg u → IsAccessInM reg u p value

-- FROZEN stays at an access, unless it reaches sctrstatus, 14F, and writes
abbrev pub FrozenChangesByStatus : Type 0
FrozenChangesByStatus = (u : UnitState) (p : Priv) (mode : Mode) (csr : ℕ) (op : CsrUse) →
    ((access_of u p mode csr op).unit.frozen ≡ u.frozen)
    ⊎ ((gate_answer mode csr (is_write op) ≡ Ok 0x14F) × (is_write op ≡ true))

-- the record buffer after an access is what the event of the access makes of it: so an access is
-- defined, and the crates above are told so
abbrev pub EventsMakeTheBuffer : Type 0
EventsMakeTheBuffer = (u : UnitState) (p : Priv) (mode : Mode) (csr : ℕ) (op : CsrUse) →
    (access_of u p mode csr op).unit.stack ≡ after_any u.stack (access_of u p mode csr op).event
