-- Freezes (RISC-V Control Transfer Records 1.0, "Freeze": fields BPFRZ and LCOFIFRZ).
use Rattle.std.specs.Prelude.{ℕ, Bool, false, ◌&&◌, ◌||◌}
use Rattle.ctr_csrs.specs.declared.control_bit.ControlBit.{ControlBit}
use Rattle.ctr_csrs.specs.declared.control_bit.ControlBit.TheVariants.{Bpfrz, Lcofifrz}
use Rattle.ctr_csrs.specs.declared.mode.Mode.{Mode}
use Rattle.ctr_csrs.specs.declared.mode.Mode.TheVariants as modes
use Rattle.ctr_csrs.specs.ControlFigure.{is_on}
use Rattle.ctr_rules.specs.declared.transfer.Transfer.{Transfer}

-- whether a freeze bit is set that counts for a trap into a mode: of mctrctl for M and S, of vsctrctl for VS
abbrev pub freezes_in : Mode → ℕ → ℕ → ControlBit → Bool
freezes_in modes.M m vs bit = is_on m bit
freezes_in modes.S m vs bit = is_on m bit
freezes_in modes.Vs m vs bit = is_on vs bit
freezes_in modes.U m vs bit = false
freezes_in modes.Vu m vs bit = false

-- whether a transfer sets FROZEN
abbrev pub freezes : Transfer → ℕ → ℕ → Bool
freezes t m vs = (t.breakpoint && freezes_in t.to m vs Bpfrz) || (t.lcofi && freezes_in t.to m vs Lcofifrz)
