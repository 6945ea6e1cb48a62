-- Privilege modes (RISC-V Privileged Architecture, "Hypervisor Extension").
use Rattle.std.specs.Prelude.{Bool, true, false}
use Rattle.ctr_csrs.specs.declared.mode.Mode.{Mode}
use Rattle.ctr_csrs.specs.declared.mode.Mode.TheVariants.{M, S, U, Vs, Vu}

-- whether the virtualisation mode V is 1
abbrev pub is_virtual : Mode → Bool
is_virtual M = false
is_virtual S = false
is_virtual U = false
is_virtual Vs = true
is_virtual Vu = true
