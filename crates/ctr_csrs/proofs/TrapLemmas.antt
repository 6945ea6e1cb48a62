-- External traps, mode by mode.
use Rattle.std.proofs.Common.{refl}
use Rattle.ctr_csrs.specs.declared.mode.Mode.{Mode}
use Rattle.ctr_csrs.specs.declared.mode.Mode.TheVariants.{M, S, U, Vs, Vu}
use Rattle.ctr_csrs.specs.TrapEnables.{TrapEnable, M_mte, M_ste, Vs_ste}
use Rattle.ctr_csrs.specs.TrapLaws.{PairsRise, NeedsBetween, NeedsModesBetween}

pub pairs_rise : PairsRise
pairs_rise M M = refl
pairs_rise M S = refl
pairs_rise M U = refl
pairs_rise M Vs = refl
pairs_rise M Vu = refl
pairs_rise S M = refl
pairs_rise S S = refl
pairs_rise S U = refl
pairs_rise S Vs = refl
pairs_rise S Vu = refl
pairs_rise U M = refl
pairs_rise U S = refl
pairs_rise U U = refl
pairs_rise U Vs = refl
pairs_rise U Vu = refl
pairs_rise Vs M = refl
pairs_rise Vs S = refl
pairs_rise Vs U = refl
pairs_rise Vs Vs = refl
pairs_rise Vs Vu = refl
pairs_rise Vu M = refl
pairs_rise Vu S = refl
pairs_rise Vu U = refl
pairs_rise Vu Vs = refl
pairs_rise Vu Vu = refl

pub by_bit : (from to : Mode) → NeedsBetween from to M_mte → NeedsBetween from to M_ste
    → NeedsBetween from to Vs_ste → (bit : TrapEnable) → NeedsBetween from to bit
by_bit from to m s vs M_mte = m
by_bit from to m s vs M_ste = s
by_bit from to m s vs Vs_ste = vs

pub needs_modes_between : NeedsModesBetween
needs_modes_between M M bit = tt
needs_modes_between M S bit = tt
needs_modes_between M U bit = tt
needs_modes_between M Vs bit = tt
needs_modes_between M Vu bit = tt
needs_modes_between S M bit = by_bit S M refl refl refl bit
needs_modes_between S S bit = tt
needs_modes_between S U bit = tt
needs_modes_between S Vs bit = tt
needs_modes_between S Vu bit = tt
needs_modes_between U M bit = by_bit U M refl refl refl bit
needs_modes_between U S bit = by_bit U S refl refl refl bit
needs_modes_between U U bit = tt
needs_modes_between U Vs bit = tt
needs_modes_between U Vu bit = tt
needs_modes_between Vs M bit = by_bit Vs M refl refl refl bit
needs_modes_between Vs S bit = by_bit Vs S refl refl refl bit
needs_modes_between Vs U bit = tt
needs_modes_between Vs Vs bit = tt
needs_modes_between Vs Vu bit = tt
needs_modes_between Vu M bit = by_bit Vu M refl refl refl bit
needs_modes_between Vu S bit = by_bit Vu S refl refl refl bit
needs_modes_between Vu U bit = tt
needs_modes_between Vu Vs bit = by_bit Vu Vs refl refl refl bit
needs_modes_between Vu Vu bit = tt
