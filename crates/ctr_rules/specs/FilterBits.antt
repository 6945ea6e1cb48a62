-- The filter bits (RISC-V Control Transfer Records 1.0, "Transfer Type Filtering").
use Rattle.std.specs.Prelude.{ℕ, Bool, true, false, cond, not, ◌||◌}
use Rattle.ctr_csrs.specs.declared.control_bit.ControlBit.{ControlBit}
use Rattle.ctr_csrs.specs.declared.control_bit.ControlBit.TheVariants as bits
use Rattle.ctr_csrs.specs.ControlFigure.{is_on}
use Rattle.ctr_csrs.specs.Modes.{is_virtual}
use Rattle.ctr_rules.specs.declared.transfer.Transfer.{Transfer}
use Rattle.xfer_class.specs.declared.types.XferType.{XferType}
use Rattle.xfer_class.specs.declared.types.XferType.TheVariants as kinds

-- the register whose filter bits and RASEMU count: vsctrctl where the transfer begins or ends with V=1, else mctrctl
abbrev pub filter_of : Transfer → ℕ → ℕ → ℕ
filter_of t m vs = cond (is_virtual t.from || is_virtual t.to) vs m

-- whether a register keeps a transfer type out: NTBREN lets in, all other bits inhibit
abbrev pub inhibits : ℕ → XferType → Bool
inhibits word kinds.Exception = is_on word bits.Excinh
inhibits word kinds.Interrupt = is_on word bits.Intrinh
inhibits word kinds.TrapReturn = is_on word bits.Tretinh
inhibits word kinds.NotTaken = not (is_on word bits.Ntbren)
inhibits word kinds.Taken = is_on word bits.Tkbrinh
inhibits word kinds.IndirectCall = is_on word bits.Indcallinh
inhibits word kinds.DirectCall = is_on word bits.Dircallinh
inhibits word kinds.IndirectJump = is_on word bits.Indjmpinh
inhibits word kinds.DirectJump = is_on word bits.Dirjmpinh
inhibits word kinds.Swap = is_on word bits.Corswapinh
inhibits word kinds.Return = is_on word bits.Retinh
inhibits word kinds.IndirectLinkJump = is_on word bits.Indljmpinh
inhibits word kinds.DirectLinkJump = is_on word bits.Dirljmpinh

-- the bit that this goes by, and whether the bit lets in
abbrev pub filter_bit : XferType → ControlBit
filter_bit kinds.Exception = bits.Excinh
filter_bit kinds.Interrupt = bits.Intrinh
filter_bit kinds.TrapReturn = bits.Tretinh
filter_bit kinds.NotTaken = bits.Ntbren
filter_bit kinds.Taken = bits.Tkbrinh
filter_bit kinds.IndirectCall = bits.Indcallinh
filter_bit kinds.DirectCall = bits.Dircallinh
filter_bit kinds.IndirectJump = bits.Indjmpinh
filter_bit kinds.DirectJump = bits.Dirjmpinh
filter_bit kinds.Swap = bits.Corswapinh
filter_bit kinds.Return = bits.Retinh
filter_bit kinds.IndirectLinkJump = bits.Indljmpinh
filter_bit kinds.DirectLinkJump = bits.Dirljmpinh

abbrev pub lets_in : XferType → Bool
lets_in kinds.NotTaken = true
lets_in _ = false
