-- The status registers after a trap and after a return, bit by bit: each bit is an old one, a
-- constant, or the mode (Privileged Architecture, "Privilege and Global Interrupt-Enable Stack in
-- mstatus register", "Hypervisor Status Register", "Virtual Supervisor Status Register", "Trap
-- Entry" and "Trap Return" of the hypervisor extension).
use Rattle.std.specs.Prelude.{ℕ, ◌≡◌, ◌≢◌, Bool, true, false, ◌||◌, cond, IsTrue}
use Rattle.std.specs.Int.{bit_at}
use Rattle.ctr_csrs.specs.declared.mode.Mode.{Mode}
use Rattle.ctr_csrs.specs.declared.mode.Mode.TheVariants.{M, S, U, Vs, Vu}
use Rattle.ctr_csrs.specs.Modes.{is_virtual}
use Rattle.guest_modes.specs.declared.registers.Priv.{Priv}
use Rattle.guest_modes.specs.declared.returning.Ret.{Ret}
use Rattle.guest_modes.specs.declared.returning.Ret.TheVariants.{Mret, SretHs, SretVs}
use Rattle.guest_modes.specs.declared.targets.Trap.{Trap}
use Rattle.guest_modes.specs.Entry.{after_trap}
use Rattle.guest_modes.specs.Returns.{after_return, mode_after, pc_after}
use Rattle.guest_modes.specs.Traps.{target_of, is_trap_between}

abbrev pub bit_of : Bool → ℕ
bit_of b = cond b 1 0

abbrev pub is_machine : Mode → Bool
is_machine M = true
is_machine S = false
is_machine U = false
is_machine Vs = false
is_machine Vu = false

-- S and VS
abbrev pub is_supervisor : Mode → Bool
is_supervisor M = false
is_supervisor S = true
is_supervisor U = false
is_supervisor Vs = true
is_supervisor Vu = false

-- mstatus after a trap into M: MIE 3, MPIE 7, MPP 12:11 (3 for M, 1 for S and VS, 0 for U and VU)
-- and MPV 39
pub record MachineEntry (from : Mode) (old new : ℕ) : Type 0 where
  pub enable : bit_at new 3 ≡ 0
  pub previous_enable : bit_at new 7 ≡ bit_at old 3
  pub privilege_low : bit_at new 11 ≡ bit_of (is_machine from || is_supervisor from)
  pub privilege_high : bit_at new 12 ≡ bit_of (is_machine from)
  pub virtualisation : bit_at new 39 ≡ bit_of (is_virtual from)
  pub others : (i : ℕ) → i ≢ 3 → i ≢ 7 → i ≢ 11 → i ≢ 12 → i ≢ 39 → bit_at new i ≡ bit_at old i

-- mstatus after a trap into S, and vsstatus after one into VS: SIE 1, SPIE 5 and SPP 8
pub record SupervisorEntry (from : Mode) (old new : ℕ) : Type 0 where
  pub enable : bit_at new 1 ≡ 0
  pub previous_enable : bit_at new 5 ≡ bit_at old 1
  pub privilege : bit_at new 8 ≡ bit_of (is_supervisor from)
  pub others : (i : ℕ) → i ≢ 1 → i ≢ 5 → i ≢ 8 → bit_at new i ≡ bit_at old i

-- hstatus after a trap into S: SPV 7, and SPVP 8, which stays where the trap comes from V=0
pub record HypervisorEntry (from : Mode) (old new : ℕ) : Type 0 where
  pub virtualisation : bit_at new 7 ≡ bit_of (is_virtual from)
  pub guest_privilege : is_virtual from ≡ true → bit_at new 8 ≡ bit_of (is_supervisor from)
  pub guest_privilege_stays : is_virtual from ≡ false → bit_at new 8 ≡ bit_at old 8
  pub others : (i : ℕ) → i ≢ 7 → i ≢ 8 → bit_at new i ≡ bit_at old i

-- the three of them after a trap into a mode
abbrev pub StatusesEntered : Mode → Mode → Priv → Priv → Type 0
StatusesEntered M from old new =
    MachineEntry from old.mstatus new.mstatus × (new.hstatus ≡ old.hstatus)
    × (new.vsstatus ≡ old.vsstatus)
StatusesEntered S from old new =
    SupervisorEntry from old.mstatus new.mstatus × HypervisorEntry from old.hstatus new.hstatus
    × (new.vsstatus ≡ old.vsstatus)
StatusesEntered Vs from old new =
    (new.mstatus ≡ old.mstatus) × (new.hstatus ≡ old.hstatus)
    × SupervisorEntry from old.vsstatus new.vsstatus
StatusesEntered U from old new = new ≡ old
StatusesEntered Vu from old new = new ≡ old

abbrev pub EntryBits : Type 0
EntryBits =
    (p : Priv) (from : Mode) (t : Trap) (pc value : ℕ)
    → StatusesEntered (target_of p from t) from p (after_trap p from t pc value)

-- mstatus after MRET
pub record MachineReturn (old new : ℕ) : Type 0 where
  pub enable : bit_at new 3 ≡ bit_at old 7
  pub previous_enable : bit_at new 7 ≡ 1
  pub privilege_low : bit_at new 11 ≡ 0
  pub privilege_high : bit_at new 12 ≡ 0
  pub virtualisation : bit_at new 39 ≡ 0
  pub others : (i : ℕ) → i ≢ 3 → i ≢ 7 → i ≢ 11 → i ≢ 12 → i ≢ 39 → bit_at new i ≡ bit_at old i

-- mstatus after SRET with V=0, and vsstatus after SRET with V=1
pub record SupervisorReturn (old new : ℕ) : Type 0 where
  pub enable : bit_at new 1 ≡ bit_at old 5
  pub previous_enable : bit_at new 5 ≡ 1
  pub privilege : bit_at new 8 ≡ 0
  pub others : (i : ℕ) → i ≢ 1 → i ≢ 5 → i ≢ 8 → bit_at new i ≡ bit_at old i

-- hstatus after SRET with V=0
pub record HypervisorReturn (old new : ℕ) : Type 0 where
  pub virtualisation : bit_at new 7 ≡ 0
  pub others : (i : ℕ) → i ≢ 7 → bit_at new i ≡ bit_at old i

-- the three of them after a return
abbrev pub StatusesLeft : Ret → Priv → Priv → Type 0
StatusesLeft Mret old new =
    MachineReturn old.mstatus new.mstatus × (new.hstatus ≡ old.hstatus)
    × (new.vsstatus ≡ old.vsstatus)
StatusesLeft SretHs old new =
    SupervisorReturn old.mstatus new.mstatus × HypervisorReturn old.hstatus new.hstatus
    × (new.vsstatus ≡ old.vsstatus)
StatusesLeft SretVs old new =
    (new.mstatus ≡ old.mstatus) × (new.hstatus ≡ old.hstatus)
    × SupervisorReturn old.vsstatus new.vsstatus

abbrev pub ReturnBits : Type 0
ReturnBits = (p : Priv) (r : Ret) → StatusesLeft r p (after_return p r)

-- the return that a handler in a mode makes; U and VU have none
abbrev pub return_from : Mode → Ret
return_from M = Mret
return_from S = SretHs
return_from U = SretHs
return_from Vs = SretVs
return_from Vu = SretVs

-- it goes back to the mode and the address that the trap came from
abbrev pub ReturnGoesBack : Type 0
ReturnGoesBack =
    (p : Priv) (from : Mode) (t : Trap) (pc value : ℕ)
    → IsTrue (is_trap_between from (target_of p from t))
    → (mode_after (after_trap p from t pc value) (return_from (target_of p from t)) ≡ from)
    × (pc_after (after_trap p from t pc value) (return_from (target_of p from t)) ≡ pc)
