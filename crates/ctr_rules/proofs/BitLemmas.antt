-- The bit that a mode or a transfer type goes by says what the tables say.
use Rattle.std.proofs.Common.{◌≡◌, refl, ℕ, not, cond}
use Rattle.ctr_csrs.specs.declared.mode.Mode.{Mode}
use Rattle.ctr_csrs.specs.declared.mode.Mode.TheVariants as modes
use Rattle.ctr_csrs.specs.ControlFigure.{is_on}
use Rattle.ctr_csrs.specs.Modes.{is_virtual}
use Rattle.ctr_rules.specs.Enabled.{enables, mode_bit}
use Rattle.ctr_rules.specs.FilterBits.{filter_bit, lets_in, inhibits}
use Rattle.xfer_class.specs.declared.types.XferType.{XferType}
use Rattle.xfer_class.specs.declared.types.XferType.TheVariants as kinds

pub enabled_by_bit : (m vs : ℕ) (mode : Mode) → is_on (cond (is_virtual mode) vs m) (mode_bit mode) ≡ enables m vs mode
enabled_by_bit m vs modes.M = refl
enabled_by_bit m vs modes.S = refl
enabled_by_bit m vs modes.U = refl
enabled_by_bit m vs modes.Vs = refl
enabled_by_bit m vs modes.Vu = refl

pub inhibited_by_bit : (word : ℕ) (kind : XferType) → cond (lets_in kind) (not (is_on word (filter_bit kind))) (is_on word (filter_bit kind)) ≡ inhibits word kind
inhibited_by_bit word kinds.Exception = refl
inhibited_by_bit word kinds.Interrupt = refl
inhibited_by_bit word kinds.TrapReturn = refl
inhibited_by_bit word kinds.NotTaken = refl
inhibited_by_bit word kinds.Taken = refl
inhibited_by_bit word kinds.IndirectCall = refl
inhibited_by_bit word kinds.DirectCall = refl
inhibited_by_bit word kinds.IndirectJump = refl
inhibited_by_bit word kinds.DirectJump = refl
inhibited_by_bit word kinds.Swap = refl
inhibited_by_bit word kinds.Return = refl
inhibited_by_bit word kinds.IndirectLinkJump = refl
inhibited_by_bit word kinds.DirectLinkJump = refl
