-- What MRET and SRET do (Privileged Architecture, "Trap-Return Instructions", "Trap Return" of the hypervisor extension).
use Rattle.std.specs.Prelude.{ℕ, cond, nat_eq, [], ◌∷◌}
use Rattle.ctr_bits.specs.Field.{field_of}
use Rattle.ctr_csrs.specs.declared.mode.Mode.{Mode}
use Rattle.ctr_csrs.specs.declared.mode.Mode.TheVariants.{M, S, U, Vs, Vu}
use Rattle.guest_modes.specs.declared.registers.Priv.{Priv}
use Rattle.guest_modes.specs.declared.returning.Ret.{Ret}
use Rattle.guest_modes.specs.declared.returning.Ret.TheVariants.{Mret, SretHs, SretVs}
use Rattle.guest_modes.specs.Words.{put, with_fields}

-- the mode of a nominal privilege and a virtualisation mode V; M has V=0 whatever V says
abbrev pub mode_of : ℕ → ℕ → Mode
mode_of privilege v =
    cond (nat_eq privilege 3) M (cond (nat_eq privilege 1) (cond (nat_eq v 1) Vs S) (cond (nat_eq v 1) Vu U))

-- the mode that a return goes to
abbrev pub mode_after : Priv → Ret → Mode
mode_after p Mret = mode_of (field_of 11 2 p.mstatus) (field_of 39 1 p.mstatus)
mode_after p SretHs = mode_of (field_of 8 1 p.mstatus) (field_of 7 1 p.hstatus)
mode_after p SretVs = mode_of (field_of 8 1 p.vsstatus) 1

-- the address that a return goes to
abbrev pub pc_after : Priv → Ret → ℕ
pc_after p Mret = p.mepc
pc_after p SretHs = p.sepc
pc_after p SretVs = p.vsepc

-- the registers after a return
abbrev pub after_return : Priv → Ret → Priv
after_return p Mret = record p {
  mstatus = with_fields p.mstatus (put 3 1 (field_of 7 1 p.mstatus) ∷ put 7 1 1 ∷ put 11 2 0 ∷ put 39 1 0 ∷ []);
}
after_return p SretHs = record p {
  mstatus = with_fields p.mstatus (put 1 1 (field_of 5 1 p.mstatus) ∷ put 5 1 1 ∷ put 8 1 0 ∷ []);
  hstatus = with_fields p.hstatus (put 7 1 0 ∷ []);
}
after_return p SretVs = record p {
  vsstatus = with_fields p.vsstatus (put 1 1 (field_of 5 1 p.vsstatus) ∷ put 5 1 1 ∷ put 8 1 0 ∷ []);
}
