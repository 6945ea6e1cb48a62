-- Which registers a trap and a return write, with what: no other register changes (Privileged
-- Architecture, "Machine Cause Register", "Machine Exception Program Counter", "Machine Trap Value
-- Register" and their forms of S and VS; "Trap Entry" and "Trap Return" of the hypervisor extension).
-- The bits of the status registers stand in StatusLaws.
use Rattle.std.specs.Prelude.{ℕ, ◌≡◌, ◌≢◌, ◌+◌, ◌^◌}
use Rattle.ctr_csrs.specs.declared.mode.Mode.{Mode}
use Rattle.ctr_csrs.specs.declared.mode.Mode.TheVariants.{M, S, U, Vs, Vu}
use Rattle.guest_modes.specs.declared.registers.Priv.{Priv}
use Rattle.guest_modes.specs.declared.returning.Ret.TheVariants.{Mret, SretHs, SretVs}
use Rattle.guest_modes.specs.declared.targets.Trap.{Trap}
use Rattle.guest_modes.specs.declared.targets.Trap.TheVariants.{Exception, Interrupt}
use Rattle.guest_modes.specs.Entry.{after_trap}
use Rattle.guest_modes.specs.Returns.{after_return}
use Rattle.guest_modes.specs.Traps.{target_of}

-- the cause of an interrupt: bit 63 and a number
abbrev pub interrupt_cause : ℕ → ℕ
interrupt_cause number = 2 ^ 63 + number

-- what M and S find as the cause
abbrev pub IsCause : Trap → ℕ → Type 0
IsCause (Exception c) word = word ≡ c
IsCause (Interrupt i) word = word ≡ interrupt_cause i

-- VS finds its software, timer and external interrupt, which are 2, 6 and 10, as 1, 5 and 9
pub record IsInterruptInGuest (i word : ℕ) : Type 0 where
  pub software : i ≡ 2 → word ≡ interrupt_cause 1
  pub timer : i ≡ 6 → word ≡ interrupt_cause 5
  pub external : i ≡ 10 → word ≡ interrupt_cause 9
  pub others : i ≢ 2 → i ≢ 6 → i ≢ 10 → word ≡ interrupt_cause i

abbrev pub IsCauseInGuest : Trap → ℕ → Type 0
IsCauseInGuest (Exception c) word = word ≡ c
IsCauseInGuest (Interrupt i) word = IsInterruptInGuest i word

-- a trap into M: mepc is its address, mcause its cause, mtval its value, mtval2 and mtinst are 0
pub record WritesMachine (t : Trap) (pc value : ℕ) (old new : Priv) : Type 0 where
  pub address : new.mepc ≡ pc
  pub cause : IsCause t new.mcause
  pub value_kept : new.mtval ≡ value
  pub second_value : new.mtval2 ≡ 0
  pub instruction : new.mtinst ≡ 0
  pub others : new ≡ record old {
    mstatus = new.mstatus;
    mepc = new.mepc;
    mcause = new.mcause;
    mtval = new.mtval;
    mtval2 = new.mtval2;
    mtinst = new.mtinst;
  }

-- a trap into S: sepc, scause and stval likewise, htval and htinst are 0
pub record WritesSupervisor (t : Trap) (pc value : ℕ) (old new : Priv) : Type 0 where
  pub address : new.sepc ≡ pc
  pub cause : IsCause t new.scause
  pub value_kept : new.stval ≡ value
  pub guest_value : new.htval ≡ 0
  pub instruction : new.htinst ≡ 0
  pub others : new ≡ record old {
    mstatus = new.mstatus;
    hstatus = new.hstatus;
    sepc = new.sepc;
    scause = new.scause;
    stval = new.stval;
    htval = new.htval;
    htinst = new.htinst;
  }

-- a trap into VS: vsepc, vscause and vstval likewise
pub record WritesGuest (t : Trap) (pc value : ℕ) (old new : Priv) : Type 0 where
  pub address : new.vsepc ≡ pc
  pub cause : IsCauseInGuest t new.vscause
  pub value_kept : new.vstval ≡ value
  pub others : new ≡ record old {
    vsstatus = new.vsstatus;
    vsepc = new.vsepc;
    vscause = new.vscause;
    vstval = new.vstval;
  }

-- by the mode that takes the trap, which is M, S or VS
abbrev pub TrapWritesIn : Mode → Trap → ℕ → ℕ → Priv → Priv → Type 0
TrapWritesIn M t pc value old new = WritesMachine t pc value old new
TrapWritesIn S t pc value old new = WritesSupervisor t pc value old new
TrapWritesIn Vs t pc value old new = WritesGuest t pc value old new
TrapWritesIn U t pc value old new = ⊥
TrapWritesIn Vu t pc value old new = ⊥

abbrev pub TrapWrites : Type 0
TrapWrites =
    (p : Priv) (from : Mode) (t : Trap) (pc value : ℕ)
    → TrapWritesIn (target_of p from t) t pc value p (after_trap p from t pc value)

-- MRET writes mstatus, SRET with V=0 mstatus and hstatus, and SRET with V=1 vsstatus
pub record ReturnWritesOf (p : Priv) : Type 0 where
  pub machine : after_return p Mret ≡ record p { mstatus = (after_return p Mret).mstatus }
  pub supervisor : after_return p SretHs ≡ record p {
    mstatus = (after_return p SretHs).mstatus;
    hstatus = (after_return p SretHs).hstatus;
  }
  pub guest : after_return p SretVs ≡ record p { vsstatus = (after_return p SretVs).vsstatus }

abbrev pub ReturnWrites : Type 0
ReturnWrites = (p : Priv) → ReturnWritesOf p
