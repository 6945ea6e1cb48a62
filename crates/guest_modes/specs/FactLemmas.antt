-- What interrupts, traps and returns keep of the facts of the registers.
use Rattle.std.proofs.Common.{ℕ, ◌≡◌, ◌≢◌, ◌+◌, ◌*◌, ◌/◌, ◌%◌, ◌^◌, ◌<◌, cond, nat_eq, bit_and, bit_or, refl, arith, lit<}
use Rattle.std.proofs.lemmas.Nat.{mod_below}
use Rattle.std.proofs.lemmas.Nat.Bits.{and_high_mask}
use Rattle.ctr_bits.specs.Field.{field_of, with_field}
use Rattle.ctr_bits.specs.MaskBits.{put_stays_within}
use Rattle.ctr_csrs.specs.declared.mode.Mode.{Mode}
use Rattle.ctr_csrs.specs.declared.mode.Mode.TheVariants.{M, S, U, Vs, Vu}
use Rattle.guest_modes.specs.declared.causes.TheConstants.{INTERRUPTS}
use Rattle.guest_modes.specs.declared.registers.Priv.{Priv}
use Rattle.guest_modes.specs.declared.returning.Ret.TheVariants.{Mret, SretHs, SretVs}
use Rattle.guest_modes.specs.declared.targets.Trap.{Trap}
use Rattle.guest_modes.specs.declared.targets.Trap.TheVariants.{Exception, Interrupt}
use Rattle.guest_modes.specs.Traps.{target_of, as_seen, guest_number, cause_word}
use Rattle.guest_modes.specs.Entry.{nominal, supervisor, guest, guest_left, after_trap_to, vector_of, handler_at}
use Rattle.guest_modes.specs.Words.{IsWithin, IsStatus, is_on}
use Rattle.guest_modes.specs.WordLemmas.{or_within, part_within, status_with_mpp, status_with_field}
use Rattle.guest_modes.specs.Facts.{keeps, RaisedKeeps, ClearedKeeps, EnteredKeeps, HandlerPlace, LeftKeeps, ReturnPlace}
pub use Rattle.guest_modes.specs.Facts.{IsPriv, IsPlace, IsSmall}
pub use Rattle.guest_modes.specs.RowFacts.{written_keeps, read_fits, full}
use Rattle.guest_modes.specs.RowFacts.{either, small_within, is, set}

-- pending bits
pub raised_keeps : RaisedKeeps
raised_keeps p pending within h =
    record {
      status = h.status;
      words =
          set 3 (keeps INTERRUPTS (bit_or p.mip pending)) p
          (or_within INTERRUPTS p.mip pending (is 3 p (lit< tt) h) within) h;
    }

pub cleared_keeps : ClearedKeeps
cleared_keeps p part h =
    record {
      status = h.status;
      words =
          set 3 (keeps INTERRUPTS (bit_and p.mip part)) p
          (part_within INTERRUPTS p.mip part (is 3 p (lit< tt) h)) h;
    }

-- traps
pub guest_small : (i : ℕ) → i < 64 → guest_number i < 64
guest_small i p =
    let third = cond (nat_eq i 10) 9 i in
    let second = cond (nat_eq i 6) 5 third in
    let small = λ (n : ℕ). n < 64 in
    either small (nat_eq i 2) 1 second (lit< tt)
    (either small (nat_eq i 6) 5 third (lit< tt) (either small (nat_eq i 10) 9 i (lit< tt) p))

pub seen_small : (m : Mode) (t : Trap) → IsSmall t → IsSmall (as_seen m t)
seen_small M (Exception c) h = h
seen_small S (Exception c) h = h
seen_small U (Exception c) h = h
seen_small Vs (Exception c) h = h
seen_small Vu (Exception c) h = h
seen_small M (Interrupt i) h = h
seen_small S (Interrupt i) h = h
seen_small U (Interrupt i) h = h
seen_small Vs (Interrupt i) h = guest_small i h
seen_small Vu (Interrupt i) h = h

pub cause_fits : (t : Trap) → IsSmall t → cause_word t < 2 ^ 64
cause_fits (Exception c) h = omega (arith, h)
cause_fits (Interrupt i) h = omega (arith, h)

pub nominal_fits : (m : Mode) → nominal m < 4
nominal_fits M = lit< tt
nominal_fits S = lit< tt
nominal_fits U = lit< tt
nominal_fits Vs = lit< tt
nominal_fits Vu = lit< tt

pub nominal_known : (m : Mode) → nominal m ≢ 2
nominal_known M = λ e. absurd (omega (arith, e))
nominal_known S = λ e. absurd (omega (arith, e))
nominal_known U = λ e. absurd (omega (arith, e))
nominal_known Vs = λ e. absurd (omega (arith, e))
nominal_known Vu = λ e. absurd (omega (arith, e))

pub supervisor_fits : (m : Mode) → supervisor m < 2
supervisor_fits M = lit< tt
supervisor_fits S = lit< tt
supervisor_fits U = lit< tt
supervisor_fits Vs = lit< tt
supervisor_fits Vu = lit< tt

pub guest_fits : (m : Mode) → guest m < 2
guest_fits M = lit< tt
guest_fits S = lit< tt
guest_fits U = lit< tt
guest_fits Vs = lit< tt
guest_fits Vu = lit< tt

pub bit_fits : (lo w : ℕ) → field_of lo 1 w < 2
bit_fits lo w = mod_below (w / 2 ^ lo) 2 (lit< tt)

pub aligned_within : (pc : ℕ) → pc < 2 ^ 64 → pc % 4 ≡ 0 → IsWithin 0xFFFFFFFFFFFFFFFC pc
aligned_within pc small aligned =
    let is : bit_and pc 0xFFFFFFFFFFFFFFFC ≡ pc / 4 * 4 =
    and_high_mask 64 2 (omega arith) pc small in
    omega (arith, is, aligned)

pub within_aligned : (pc : ℕ) → IsWithin 0xFFFFFFFFFFFFFFFC pc → pc % 4 ≡ 0
within_aligned pc h =
    let small : pc < 2 ^ 64 = small_within 0xFFFFFFFFFFFFFFFC pc (lit< tt) h in
    let is : bit_and pc 0xFFFFFFFFFFFFFFFC ≡ pc / 4 * 4 =
    and_high_mask 64 2 (omega arith) pc small in
    omega (arith, is, h)

pub hstatus_left : (w : ℕ) (m : Mode) → IsWithin 0x180 w → IsWithin 0x180 (guest_left w m)
hstatus_left w M h = put_stays_within 7 1 0x180 w 0 (lit< tt) refl h
hstatus_left w S h = put_stays_within 7 1 0x180 w 0 (lit< tt) refl h
hstatus_left w U h = put_stays_within 7 1 0x180 w 0 (lit< tt) refl h
hstatus_left w Vs h =
    put_stays_within 8 1 0x180 (with_field 7 1 w 1) 1 (lit< tt) refl
    (put_stays_within 7 1 0x180 w 1 (lit< tt) refl h)
hstatus_left w Vu h =
    put_stays_within 8 1 0x180 (with_field 7 1 w 1) 0 (lit< tt) refl
    (put_stays_within 7 1 0x180 w 1 (lit< tt) refl h)

-- three fields of mstatus or vsstatus at the places of S
pub status_supervised : (w a b c : ℕ) → IsStatus w → a < 2 → b < 2 → c < 2
    → IsStatus (with_field 1 1 (with_field 5 1 (with_field 8 1 w a) b) c)
status_supervised w a b c h fa fb fc =
    let one = with_field 8 1 w a in
    status_with_field 1 1 (with_field 5 1 one b) c
    (status_with_field 5 1 one b
    (status_with_field 8 1 w a h fa refl refl) fb refl refl) fc refl refl

pub within_supervised : (w a b c : ℕ) → IsWithin 0x122 w → a < 2 → b < 2 → c < 2
    → IsWithin 0x122 (with_field 1 1 (with_field 5 1 (with_field 8 1 w a) b) c)
within_supervised w a b c h fa fb fc =
    let one = with_field 8 1 w a in
    put_stays_within 1 1 0x122 (with_field 5 1 one b) c fc refl
    (put_stays_within 5 1 0x122 one b fb refl (put_stays_within 8 1 0x122 w a fa refl h))

pub status_entered : (w : ℕ) (m : Mode) → IsStatus w
    → IsStatus
    (with_field 3 1
    (with_field 7 1 (with_field 39 1 (with_field 11 2 w (nominal m)) (guest m))
    (field_of 3 1 w)) 0)
status_entered w m h =
    let one = with_field 11 2 w (nominal m) in
    let two = with_field 39 1 one (guest m) in
    let three = with_field 7 1 two (field_of 3 1 w) in
    status_with_field 3 1 three 0
    (status_with_field 7 1 two (field_of 3 1 w)
    (status_with_field 39 1 one (guest m)
    (status_with_mpp w (nominal m) h.kept (nominal_fits m) (nominal_known m))
    (guest_fits m) refl refl)
    (bit_fits 3 w) refl refl)
    (lit< tt) refl refl

pub entered_in_keeps : (to : Mode) (p : Priv) (from : Mode) (t : Trap) (pc value : ℕ) → IsPriv p
    → IsSmall t → pc < 2 ^ 64 → pc % 4 ≡ 0 → value < 2 ^ 64
    → IsPriv (after_trap_to to p from t pc value)
entered_in_keeps M p from t pc value h small fits aligned s =
    let a = record p { mepc = pc } in
    let b = record a { mcause = cause_word t } in
    let c = record b { mtval = value } in
    let d = record c { mtval2 = 0 } in
    let ha : IsPriv a =
    record {
      status = h.status;
      words =
          set 6 (keeps 0xFFFFFFFFFFFFFFFC pc) p (aligned_within pc fits aligned) h;
    } in
    let hb : IsPriv b =
    record {
      status = h.status;
      words =
          set 7 (keeps 0xFFFFFFFFFFFFFFFF (cause_word t)) a
          (full (cause_word t) (cause_fits t small)) ha;
    } in
    let hc : IsPriv c =
    record {
      status = h.status;
      words =
          set 8 (keeps 0xFFFFFFFFFFFFFFFF value) b (full value s) hb;
    } in
    let hd : IsPriv d =
    record { status = h.status; words = set 10 (keeps 0xFFFFFFFFFFFFFFFF 0) c refl hc } in
    record {
      status = status_entered p.mstatus from h.status;
      words =
          set 9 (keeps 0xFFFFFFFFFFFFFFFF 0) d refl hd;
    }
entered_in_keeps S p from t pc value h small fits aligned s =
    let a = record p { sepc = pc } in
    let b = record a { scause = cause_word t } in
    let c = record b { stval = value } in
    let d = record c { htval = 0 } in
    let e = record d { htinst = 0 } in
    let ha : IsPriv a =
    record {
      status = h.status;
      words =
          set 13 (keeps 0xFFFFFFFFFFFFFFFC pc) p (aligned_within pc fits aligned) h;
    } in
    let hb : IsPriv b =
    record {
      status = h.status;
      words =
          set 14 (keeps 0xFFFFFFFFFFFFFFFF (cause_word t)) a
          (full (cause_word t) (cause_fits t small)) ha;
    } in
    let hc : IsPriv c =
    record {
      status = h.status;
      words =
          set 15 (keeps 0xFFFFFFFFFFFFFFFF value) b (full value s) hb;
    } in
    let hd : IsPriv d =
    record { status = h.status; words = set 19 (keeps 0xFFFFFFFFFFFFFFFF 0) c refl hc } in
    let he : IsPriv e =
    record { status = h.status; words = set 20 (keeps 0xFFFFFFFFFFFFFFFF 0) d refl hd } in
    record {
      status = status_supervised p.mstatus (supervisor from) (field_of 1 1 p.mstatus) 0 h.status
          (supervisor_fits from) (bit_fits 1 p.mstatus) (lit< tt);
      words = set 16 (keeps 0x180 (guest_left p.hstatus from)) e
          (hstatus_left p.hstatus from (is 16 p (lit< tt) h)) he;
    }
entered_in_keeps Vs p from t pc value h small fits aligned s =
    let status =
    with_field 1 1
    (with_field 5 1 (with_field 8 1 p.vsstatus (supervisor from))
    (field_of 1 1 p.vsstatus)) 0 in
    let a = record p { vsepc = pc } in
    let b = record a { vscause = cause_word t } in
    let c = record b { vstval = value } in
    let ha : IsPriv a =
    record {
      status = h.status;
      words =
          set 24 (keeps 0xFFFFFFFFFFFFFFFC pc) p (aligned_within pc fits aligned) h;
    } in
    let hb : IsPriv b =
    record {
      status = h.status;
      words =
          set 25 (keeps 0xFFFFFFFFFFFFFFFF (cause_word t)) a
          (full (cause_word t) (cause_fits t small)) ha;
    } in
    let hc : IsPriv c =
    record {
      status = h.status;
      words =
          set 26 (keeps 0xFFFFFFFFFFFFFFFF value) b (full value s) hb;
    } in
    record {
      status = h.status;
      words = set 21 (keeps 0x122 status) c
          (within_supervised p.vsstatus (supervisor from) (field_of 1 1 p.vsstatus) 0
          (is 21 p (lit< tt) h) (supervisor_fits from) (bit_fits 1 p.vsstatus) (lit< tt)) hc;
    }
entered_in_keeps U p from t pc value h small fits aligned s = h
entered_in_keeps Vu p from t pc value h small fits aligned s = h

pub entered_keeps : EnteredKeeps
entered_keeps p from t pc value h small fits aligned s =
    let to = target_of p from t in
    entered_in_keeps to p from (as_seen to t) pc value h (seen_small to t small) fits aligned s

-- the handler's address
pub vector_fits : (p : Priv) (m : Mode) → IsPriv p → vector_of p m < 2 ^ 64
vector_fits p M h = small_within 0xFFFFFFFFFFFFFFFD p.mtvec (lit< tt) (is 4 p (lit< tt) h)
vector_fits p S h = small_within 0xFFFFFFFFFFFFFFFD p.stvec (lit< tt) (is 11 p (lit< tt) h)
vector_fits p Vs h = small_within 0xFFFFFFFFFFFFFFFD p.vstvec (lit< tt) (is 22 p (lit< tt) h)
vector_fits p U h = lit< tt
vector_fits p Vu h = lit< tt

pub handler_at_place : (vector : ℕ) (t : Trap) → vector < 2 ^ 64 → IsPlace (handler_at vector t)
handler_at_place vector (Exception c) p = record { fits = omega (arith, p); aligned = omega arith }
handler_at_place vector (Interrupt i) p =
    either IsPlace (is_on vector 0) ((vector / 4 * 4 + 4 * i) % 2 ^ 64) (vector / 4 * 4)
    (record { fits = mod_below (vector / 4 * 4 + 4 * i) (2 ^ 64) (lit< tt); aligned = omega arith })
    (record { fits = omega (arith, p); aligned = omega arith })

pub handler_place : HandlerPlace
handler_place p from t h =
    let to = target_of p from t in
    handler_at_place (vector_of p to) (as_seen to t) (vector_fits p to h)

-- returns
pub left_keeps : LeftKeeps
left_keeps p Mret h =
    let w = p.mstatus in
    let one = with_field 3 1 w (field_of 7 1 w) in
    let two = with_field 7 1 one 1 in
    let three = with_field 11 2 two 0 in
    let second : IsStatus two =
    status_with_field 7 1 one 1
    (status_with_field 3 1 w (field_of 7 1 w) h.status (bit_fits 7 w) refl refl)
    (lit< tt) refl refl in
    record {
      status = status_with_field 39 1 three 0
          (status_with_mpp two 0 second.kept (lit< tt) (λ e. absurd (omega (arith, e))))
          (lit< tt) refl refl;
      words = h.words;
    }
left_keeps p SretHs h =
    let w = p.mstatus in
    let one = with_field 1 1 w (field_of 5 1 w) in
    let two = with_field 5 1 one 1 in
    record {
      status = status_with_field 8 1 two 0
          (status_with_field 5 1 one 1
          (status_with_field 1 1 w (field_of 5 1 w) h.status (bit_fits 5 w) refl refl)
          (lit< tt) refl refl) (lit< tt) refl refl;
      words = set 16 (keeps 0x180 (with_field 7 1 p.hstatus 0)) p
          (put_stays_within 7 1 0x180 p.hstatus 0 (lit< tt) refl (is 16 p (lit< tt) h)) h;
    }
left_keeps p SretVs h =
    let w = p.vsstatus in
    let one = with_field 1 1 w (field_of 5 1 w) in
    let two = with_field 5 1 one 1 in
    record {
      status = h.status;
      words = set 21 (keeps 0x122 (with_field 8 1 two 0)) p
          (put_stays_within 8 1 0x122 two 0 (lit< tt) refl
          (put_stays_within 5 1 0x122 one 1 (lit< tt) refl
          (put_stays_within 1 1 0x122 w (field_of 5 1 w) (bit_fits 5 w) refl
          (is 21 p (lit< tt) h)))) h;
    }

pub epc_place : (pc : ℕ) → IsWithin 0xFFFFFFFFFFFFFFFC pc → IsPlace pc
epc_place pc h =
    record { fits = small_within 0xFFFFFFFFFFFFFFFC pc (lit< tt) h; aligned = within_aligned pc h }

pub return_place : ReturnPlace
return_place p Mret h = epc_place p.mepc (is 6 p (lit< tt) h)
return_place p SretHs h = epc_place p.sepc (is 13 p (lit< tt) h)
return_place p SretVs h = epc_place p.vsepc (is 24 p (lit< tt) h)
