-- What taking a trap does (Privileged Architecture, "Trap Entry" of the hypervisor extension; mtvec, stvec, vstvec).
use Rattle.std.specs.Prelude.{ℕ, ◌+◌, ◌*◌, ◌/◌, ◌%◌, ◌^◌, cond, [], ◌∷◌}
use Rattle.ctr_bits.specs.Field.{field_of}
use Rattle.ctr_csrs.specs.declared.mode.Mode.{Mode}
use Rattle.ctr_csrs.specs.declared.mode.Mode.TheVariants.{M, S, U, Vs, Vu}
use Rattle.guest_modes.specs.declared.registers.Priv.{Priv}
use Rattle.guest_modes.specs.declared.targets.Trap.{Trap}
use Rattle.guest_modes.specs.declared.targets.Trap.TheVariants.{Exception, Interrupt}
use Rattle.guest_modes.specs.Traps.{target_of, as_seen, cause_word}
use Rattle.guest_modes.specs.Words.{is_on, put, with_fields}

-- the nominal privilege of a mode, as MPP holds it
abbrev pub nominal : Mode → ℕ
nominal M = 3
nominal S = 1
nominal U = 0
nominal Vs = 1
nominal Vu = 0

-- the nominal privilege as SPP and SPVP hold it: 1 for supervisor modes
abbrev pub supervisor : Mode → ℕ
supervisor M = 0
supervisor S = 1
supervisor U = 0
supervisor Vs = 1
supervisor Vu = 0

-- the virtualisation mode V, as MPV and SPV hold it
abbrev pub guest : Mode → ℕ
guest M = 0
guest S = 0
guest U = 0
guest Vs = 1
guest Vu = 1

-- the trap, as M sees it, is taken in M
abbrev pub after_trap_to_m : Priv → Mode → Trap → ℕ → ℕ → Priv
after_trap_to_m p from trap pc value = record p {
  mepc = pc;
  mcause = cause_word trap;
  mtval = value;
  mtval2 = 0;
  mtinst = 0;
  mstatus = with_fields p.mstatus (put 11 2 (nominal from) ∷ put 39 1 (guest from) ∷ put 7 1 (field_of 3 1 p.mstatus) ∷ put 3 1 0 ∷ []);
}

-- hstatus after a trap to S: SPV is V, and where V is 1, SPVP is the new SPP
abbrev pub guest_left : ℕ → Mode → ℕ
guest_left hstatus M = with_fields hstatus (put 7 1 0 ∷ [])
guest_left hstatus S = with_fields hstatus (put 7 1 0 ∷ [])
guest_left hstatus U = with_fields hstatus (put 7 1 0 ∷ [])
guest_left hstatus Vs = with_fields hstatus (put 7 1 1 ∷ put 8 1 1 ∷ [])
guest_left hstatus Vu = with_fields hstatus (put 7 1 1 ∷ put 8 1 0 ∷ [])

-- the trap, as S sees it, is taken in S
abbrev pub after_trap_to_s : Priv → Mode → Trap → ℕ → ℕ → Priv
after_trap_to_s p from trap pc value = record p {
  sepc = pc;
  scause = cause_word trap;
  stval = value;
  htval = 0;
  htinst = 0;
  mstatus = with_fields p.mstatus (put 8 1 (supervisor from) ∷ put 5 1 (field_of 1 1 p.mstatus) ∷ put 1 1 0 ∷ []);
  hstatus = guest_left p.hstatus from;
}

-- the trap, as VS sees it, is taken in VS
abbrev pub after_trap_to_vs : Priv → Mode → Trap → ℕ → ℕ → Priv
after_trap_to_vs p from trap pc value = record p {
  vsepc = pc;
  vscause = cause_word trap;
  vstval = value;
  vsstatus = with_fields p.vsstatus (put 8 1 (supervisor from) ∷ put 5 1 (field_of 1 1 p.vsstatus) ∷ put 1 1 0 ∷ []);
}

-- the registers after a trap into a mode; no trap goes to U or VU
abbrev pub after_trap_to : Mode → Priv → Mode → Trap → ℕ → ℕ → Priv
after_trap_to M p from trap pc value = after_trap_to_m p from trap pc value
after_trap_to S p from trap pc value = after_trap_to_s p from trap pc value
after_trap_to Vs p from trap pc value = after_trap_to_vs p from trap pc value
after_trap_to U p from trap pc value = p
after_trap_to Vu p from trap pc value = p

abbrev pub after_trap : Priv → Mode → Trap → ℕ → ℕ → Priv
after_trap p from trap pc value =
    let to = target_of p from trap in
    after_trap_to to p from (as_seen to trap) pc value

-- the trap vector of a mode
abbrev pub vector_of : Priv → Mode → ℕ
vector_of p M = p.mtvec
vector_of p S = p.stvec
vector_of p Vs = p.vstvec
vector_of p U = 0
vector_of p Vu = 0

-- the handler's address: the base, and in vectored mode 4 times its number further for an interrupt
abbrev pub handler_at : ℕ → Trap → ℕ
handler_at vector (Exception c) = vector / 4 * 4
handler_at vector (Interrupt i) = cond (is_on vector 0) ((vector / 4 * 4 + 4 * i) % 2 ^ 64) (vector / 4 * 4)

-- the handler's address in the mode that takes the trap
abbrev pub handler_of : Priv → Mode → Trap → ℕ
handler_of p from trap =
    let to = target_of p from trap in
    handler_at (vector_of p to) (as_seen to trap)
