-- Which modes record, and which traps out of them are recorded (RISC-V Control Transfer Records 1.0, fields M, S and U of
-- the control registers, and "External Traps").
use Rattle.std.specs.Prelude.{ℕ, Bool, false, List, Option, Some, None}
use Rattle.ctr_csrs.specs.declared.mode.Mode.{Mode}
use Rattle.ctr_csrs.specs.declared.mode.Mode.TheVariants as modes
use Rattle.ctr_csrs.specs.declared.control_bit.ControlBit.{ControlBit}
use Rattle.ctr_csrs.specs.declared.control_bit.ControlBit.TheVariants as bits
use Rattle.ctr_csrs.specs.ControlFigure.{is_on}
use Rattle.ctr_csrs.specs.TrapEnables.{TrapEnable, needed, are_set}

-- whether mctrctl and vsctrctl enable a mode
abbrev pub enables : ℕ → ℕ → Mode → Bool
enables m vs modes.M = is_on m bits.M
enables m vs modes.S = is_on m bits.S
enables m vs modes.U = is_on m bits.U
enables m vs modes.Vs = is_on vs bits.S
enables m vs modes.Vu = is_on vs bits.U

-- the bit that enables a mode, in the one register or in the other
abbrev pub mode_bit : Mode → ControlBit
mode_bit modes.M = bits.M
mode_bit modes.S = bits.S
mode_bit modes.U = bits.U
mode_bit modes.Vs = bits.S
mode_bit modes.Vu = bits.U

-- whether all bits of a list are set; false where there is no list
abbrev pub are_all_set : ℕ → ℕ → Option (List TrapEnable) → Bool
are_all_set m vs (Some bits) = are_set m vs bits
are_all_set m vs None = false

-- whether the trap-enable bits of a pair of modes are all set; false for what is no pair
abbrev pub trap_enabled : Mode → Mode → ℕ → ℕ → Bool
trap_enabled from to m vs = are_all_set m vs (needed from to)
