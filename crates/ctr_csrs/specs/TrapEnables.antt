-- Traps between two modes, and the trap-enable bits that an external trap needs (RISC-V Control Transfer Records 1.0,
-- "External Traps"; the pairs of modes are those of the Privileged Architecture, since a trap never lowers privilege).
use Rattle.std.specs.Prelude.{ℕ, Bool, true, ◌&&◌, is_some, Option, Some, None, List, [], ◌∷◌}
use Rattle.ctr_csrs.specs.declared.control_bit.ControlBit.TheVariants as bits
use Rattle.ctr_csrs.specs.declared.mode.Mode.{Mode}
use Rattle.ctr_csrs.specs.declared.mode.Mode.TheVariants.{M, S, U, Vs, Vu}
use Rattle.ctr_csrs.specs.ControlFigure.{is_on}

-- the trap-enable bits: MTE and STE of mctrctl, STE of vsctrctl
pub data TrapEnable : Type 0 where
  M_mte : TrapEnable
  M_ste : TrapEnable
  Vs_ste : TrapEnable

-- which bits a trap from one mode to another needs; None where no trap goes from the one to the other, or where
-- they are the same mode
abbrev pub needed : Mode → Mode → Option (List TrapEnable)
needed U S = Some (M_ste ∷ [])
needed U M = Some (M_mte ∷ M_ste ∷ [])
needed S M = Some (M_mte ∷ [])
needed Vu Vs = Some (Vs_ste ∷ [])
needed Vu S = Some (M_ste ∷ Vs_ste ∷ [])
needed Vu M = Some (M_mte ∷ M_ste ∷ Vs_ste ∷ [])
needed Vs S = Some (M_ste ∷ [])
needed Vs M = Some (M_ste ∷ M_mte ∷ [])
needed _ _ = None

-- the pairs of modes between which a trap changes the mode
abbrev pub is_pair : Mode → Mode → Bool
is_pair from to = is_some (needed from to)

-- whether a trap-enable bit is set in mctrctl or vsctrctl
abbrev pub is_set : ℕ → ℕ → TrapEnable → Bool
is_set m vs M_mte = is_on m bits.Mte
is_set m vs M_ste = is_on m bits.Ste
is_set m vs Vs_ste = is_on vs bits.Ste

-- whether all of them are set
abbrev pub are_set : ℕ → ℕ → List TrapEnable → Bool
are_set m vs [] = true
are_set m vs (bit ∷ more) = is_set m vs bit && are_set m vs more
