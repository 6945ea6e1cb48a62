-- The bits of the status registers after a trap and after a return.
use Rattle.std.proofs.Common.{ℕ, ◌≡◌, ◌≢◌, ◌+◌, ◌-◌, ◌<◌, ◌≤◌, ◌⊎◌, true, false, cond, nat_eq, ◌||◌, IsTrue, refl, sym, ◌∙◌, ap, inl, inr, arith, lit<, lit≤}
use Rattle.std.proofs.lemmas.Bool.{cases_lt, eqb-false, both_ways}
use Rattle.std.specs.Int.{bit_at}
use Rattle.ctr_bits.specs.Field.{field_of, with_field}
use Rattle.ctr_bits.specs.FieldBits.{put_bit_below, put_bit_inside, put_bit_above}
use Rattle.ctr_bits.specs.FieldLaws.{get_after_put, put_leaves_others}
use Rattle.ctr_csrs.specs.declared.mode.Mode.{Mode}
use Rattle.ctr_csrs.specs.declared.mode.Mode.TheVariants.{M, S, U, Vs, Vu}
use Rattle.ctr_csrs.specs.Modes.{is_virtual}
use Rattle.guest_modes.specs.declared.registers.Priv.{Priv}
use Rattle.guest_modes.specs.declared.returning.Ret.TheVariants.{Mret, SretHs, SretVs}
use Rattle.guest_modes.specs.declared.targets.Trap.{Trap}
use Rattle.guest_modes.specs.Entry.{nominal, supervisor, guest, guest_left, after_trap_to}
use Rattle.guest_modes.specs.FactLemmas.{nominal_fits, supervisor_fits, guest_fits, bit_fits}
use Rattle.guest_modes.specs.Returns.{mode_of, mode_after, pc_after}
use Rattle.guest_modes.specs.StatusLaws.{bit_of, is_machine, is_supervisor, MachineEntry, SupervisorEntry, HypervisorEntry, StatusesEntered, EntryBits, MachineReturn, SupervisorReturn, HypervisorReturn, ReturnBits, return_from, ReturnGoesBack}
use Rattle.guest_modes.specs.Registers.{delegated}
use Rattle.guest_modes.specs.RowFacts.{either}
use Rattle.guest_modes.specs.Traps.{target_of, exception_delegated, as_seen, is_trap_between, IsTaker}
use Rattle.guest_modes.specs.Words.{is_on}
use Rattle.guest_modes.specs.declared.targets.Trap.TheVariants.{Exception, Interrupt}

pub apart : (a b : ℕ) → nat_eq a b ≡ false → a ≢ b
apart a b e = eqb-false a b e

-- a bit put at a place
pub put_there : (k w v : ℕ) → v < 2 → bit_at (with_field k 1 w v) k ≡ v
put_there k w v fits =
    let place : k - k ≡ 0 = omega arith in
    put_bit_inside k 1 w v k (omega arith) (omega arith) ∙ ap (λ (i : ℕ). bit_at v i) place
    ∙ omega arith

pub put_elsewhere : (k w v i : ℕ) → v < 2 → i ≢ k → bit_at (with_field k 1 w v) i ≡ bit_at w i
put_elsewhere k w v i fits other = elim (cases_lt i k) [
  | inl below ↦ put_bit_below k 1 w v i below
  | inr least ↦ elim (cases_lt k i) [
    | inl above ↦ put_bit_above k 1 w v i fits (omega arith)
    | inr most ↦ absurd (other (omega arith))
  ]
]

-- MPP
pub mpp_elsewhere : (w v i : ℕ) → v < 4 → i ≢ 11 → i ≢ 12
    → bit_at (with_field 11 2 w v) i ≡ bit_at w i
mpp_elsewhere w v i fits low high = elim (cases_lt i 11) [
  | inl below ↦ put_bit_below 11 2 w v i below
  | inr least ↦ elim (cases_lt 12 i) [
    | inl above ↦ put_bit_above 11 2 w v i fits (omega arith)
    | inr most ↦ elim (cases_lt i 12) [
      | inl eleven ↦ absurd (low (omega arith))
      | inr twelve ↦ absurd (high (omega arith))
    ]
  ]
]

pub mpp_low : (w v : ℕ) → bit_at (with_field 11 2 w v) 11 ≡ bit_at v 0
mpp_low w v = put_bit_inside 11 2 w v 11 (lit≤ tt) (lit< tt)

pub mpp_high : (w v : ℕ) → bit_at (with_field 11 2 w v) 12 ≡ bit_at v 1
mpp_high w v = put_bit_inside 11 2 w v 12 (lit≤ tt) (lit< tt)

pub low_of_nominal : (m : Mode) → bit_at (nominal m) 0 ≡ bit_of (is_machine m || is_supervisor m)
low_of_nominal M = refl
low_of_nominal S = refl
low_of_nominal U = refl
low_of_nominal Vs = refl
low_of_nominal Vu = refl

pub high_of_nominal : (m : Mode) → bit_at (nominal m) 1 ≡ bit_of (is_machine m)
high_of_nominal M = refl
high_of_nominal S = refl
high_of_nominal U = refl
high_of_nominal Vs = refl
high_of_nominal Vu = refl

pub guest_is_virtual : (m : Mode) → guest m ≡ bit_of (is_virtual m)
guest_is_virtual M = refl
guest_is_virtual S = refl
guest_is_virtual U = refl
guest_is_virtual Vs = refl
guest_is_virtual Vu = refl

pub supervisor_is : (m : Mode) → supervisor m ≡ bit_of (is_supervisor m)
supervisor_is M = refl
supervisor_is S = refl
supervisor_is U = refl
supervisor_is Vs = refl
supervisor_is Vu = refl

-- traps
pub machine_entry : (from : Mode) (w : ℕ)
    → MachineEntry from w
    (with_field 3 1
    (with_field 7 1 (with_field 39 1 (with_field 11 2 w (nominal from)) (guest from))
    (field_of 3 1 w)) 0)
machine_entry from w =
    let one = with_field 11 2 w (nominal from) in
    let two = with_field 39 1 one (guest from) in
    let three = with_field 7 1 two (field_of 3 1 w) in
    let zero_fits : 0 < 2 = lit< tt in
    let last = λ (i : ℕ) (other : i ≢ 3). put_elsewhere 3 three 0 i zero_fits other in
    let third =
    λ (i : ℕ) (other : i ≢ 7). put_elsewhere 7 two (field_of 3 1 w) i (bit_fits 3 w) other in
    let second =
    λ (i : ℕ) (other : i ≢ 39). put_elsewhere 39 one (guest from) i (guest_fits from) other in
    record {
      enable = put_there 3 three 0 zero_fits;
      previous_enable = last 7 (apart 7 3 refl) ∙ put_there 7 two (field_of 3 1 w) (bit_fits 3 w);
      privilege_low =
          last 11 (apart 11 3 refl) ∙ third 11 (apart 11 7 refl) ∙ second 11 (apart 11 39 refl)
          ∙ mpp_low w (nominal from) ∙ low_of_nominal from;
      privilege_high =
          last 12 (apart 12 3 refl) ∙ third 12 (apart 12 7 refl) ∙ second 12 (apart 12 39 refl)
          ∙ mpp_high w (nominal from) ∙ high_of_nominal from;
      virtualisation =
          last 39 (apart 39 3 refl) ∙ third 39 (apart 39 7 refl)
          ∙ put_there 39 one (guest from) (guest_fits from) ∙ guest_is_virtual from;
      others = λ i a b c d e. last i a ∙ third i b ∙ second i e
          ∙ mpp_elsewhere w (nominal from) i (nominal_fits from) c d;
    }

pub supervisor_entry : (from : Mode) (w : ℕ)
    → SupervisorEntry from w
    (with_field 1 1 (with_field 5 1 (with_field 8 1 w (supervisor from)) (field_of 1 1 w)) 0)
supervisor_entry from w =
    let one = with_field 8 1 w (supervisor from) in
    let two = with_field 5 1 one (field_of 1 1 w) in
    let zero_fits : 0 < 2 = lit< tt in
    let last = λ (i : ℕ) (other : i ≢ 1). put_elsewhere 1 two 0 i zero_fits other in
    let second =
    λ (i : ℕ) (other : i ≢ 5). put_elsewhere 5 one (field_of 1 1 w) i (bit_fits 1 w) other in
    record {
      enable = put_there 1 two 0 zero_fits;
      previous_enable = last 5 (apart 5 1 refl) ∙ put_there 5 one (field_of 1 1 w) (bit_fits 1 w);
      privilege =
          last 8 (apart 8 1 refl) ∙ second 8 (apart 8 5 refl)
          ∙ put_there 8 w (supervisor from) (supervisor_fits from) ∙ supervisor_is from;
      others = λ i a b c. last i a ∙ second i b
          ∙ put_elsewhere 8 w (supervisor from) i (supervisor_fits from) c;
    }

pub entry_from_host : (from : Mode) (w : ℕ) → is_virtual from ≡ false
    → HypervisorEntry from w (with_field 7 1 w 0)
entry_from_host from w host =
    let zero_fits : 0 < 2 = lit< tt in
    record {
      virtualisation = put_there 7 w 0 zero_fits ∙ sym (ap bit_of host);
      guest_privilege = λ e. absurd (both_ways (is_virtual from) host e);
      guest_privilege_stays = λ e. put_elsewhere 7 w 0 8 zero_fits (apart 8 7 refl);
      others = λ i a b. put_elsewhere 7 w 0 i zero_fits a;
    }

pub entry_from_guest : (from : Mode) (w v : ℕ) → is_virtual from ≡ true
    → v ≡ bit_of (is_supervisor from) → v < 2
    → HypervisorEntry from w (with_field 8 1 (with_field 7 1 w 1) v)
entry_from_guest from w v inside is fits =
    let one = with_field 7 1 w 1 in
    let one_fits : 1 < 2 = lit< tt in
    record {
      virtualisation =
          put_elsewhere 8 one v 7 fits (apart 7 8 refl) ∙ put_there 7 w 1 one_fits
          ∙ sym (ap bit_of inside);
      guest_privilege = λ e. put_there 8 one v fits ∙ is;
      guest_privilege_stays = λ e. absurd (both_ways (is_virtual from) e inside);
      others = λ i a b. put_elsewhere 8 one v i fits b ∙ put_elsewhere 7 w 1 i one_fits a;
    }

pub hypervisor_entry : (from : Mode) (w : ℕ) → HypervisorEntry from w (guest_left w from)
hypervisor_entry M w = entry_from_host M w refl
hypervisor_entry S w = entry_from_host S w refl
hypervisor_entry U w = entry_from_host U w refl
hypervisor_entry Vs w = entry_from_guest Vs w 1 refl refl (lit< tt)
hypervisor_entry Vu w = entry_from_guest Vu w 0 refl refl (lit< tt)

pub entry_in : (to : Mode) (p : Priv) (from : Mode) (t : Trap) (pc value : ℕ)
    → StatusesEntered to from p (after_trap_to to p from t pc value)
entry_in M p from t pc value = (machine_entry from p.mstatus, refl, refl)
entry_in S p from t pc value =
    (supervisor_entry from p.mstatus, hypervisor_entry from p.hstatus, refl)
entry_in Vs p from t pc value = (refl, refl, supervisor_entry from p.vsstatus)
entry_in U p from t pc value = refl
entry_in Vu p from t pc value = refl

pub entry_bits : EntryBits
entry_bits p from t pc value =
    let to = target_of p from t in
    entry_in to p from (as_seen to t) pc value

-- returns
pub machine_return : (w : ℕ)
    → MachineReturn w
    (with_field 39 1
    (with_field 11 2 (with_field 7 1 (with_field 3 1 w (field_of 7 1 w)) 1) 0) 0)
machine_return w =
    let one = with_field 3 1 w (field_of 7 1 w) in
    let two = with_field 7 1 one 1 in
    let three = with_field 11 2 two 0 in
    let zero_fits : 0 < 2 = lit< tt in
    let one_fits : 1 < 2 = lit< tt in
    let none_fits : 0 < 4 = lit< tt in
    let last = λ (i : ℕ) (other : i ≢ 39). put_elsewhere 39 three 0 i zero_fits other in
    let third =
    λ (i : ℕ) (low : i ≢ 11) (high : i ≢ 12). mpp_elsewhere two 0 i none_fits low high in
    record {
      enable = last 3 (apart 3 39 refl) ∙ third 3 (apart 3 11 refl) (apart 3 12 refl)
          ∙ put_elsewhere 7 one 1 3 one_fits (apart 3 7 refl)
          ∙ put_there 3 w (field_of 7 1 w) (bit_fits 7 w);
      previous_enable =
          last 7 (apart 7 39 refl) ∙ third 7 (apart 7 11 refl) (apart 7 12 refl)
          ∙ put_there 7 one 1 one_fits;
      privilege_low = last 11 (apart 11 39 refl) ∙ mpp_low two 0;
      privilege_high = last 12 (apart 12 39 refl) ∙ mpp_high two 0;
      virtualisation = put_there 39 three 0 zero_fits;
      others = λ i a b c d e. last i e ∙ third i c d ∙ put_elsewhere 7 one 1 i one_fits b
          ∙ put_elsewhere 3 w (field_of 7 1 w) i (bit_fits 7 w) a;
    }

pub supervisor_return : (w : ℕ)
    → SupervisorReturn w (with_field 8 1 (with_field 5 1 (with_field 1 1 w (field_of 5 1 w)) 1) 0)
supervisor_return w =
    let one = with_field 1 1 w (field_of 5 1 w) in
    let two = with_field 5 1 one 1 in
    let zero_fits : 0 < 2 = lit< tt in
    let one_fits : 1 < 2 = lit< tt in
    let last = λ (i : ℕ) (other : i ≢ 8). put_elsewhere 8 two 0 i zero_fits other in
    let second = λ (i : ℕ) (other : i ≢ 5). put_elsewhere 5 one 1 i one_fits other in
    record {
      enable = last 1 (apart 1 8 refl) ∙ second 1 (apart 1 5 refl)
          ∙ put_there 1 w (field_of 5 1 w) (bit_fits 5 w);
      previous_enable = last 5 (apart 5 8 refl) ∙ put_there 5 one 1 one_fits;
      privilege = put_there 8 two 0 zero_fits;
      others = λ i a b c. last i c ∙ second i b
          ∙ put_elsewhere 1 w (field_of 5 1 w) i (bit_fits 5 w) a;
    }

pub hypervisor_return : (w : ℕ) → HypervisorReturn w (with_field 7 1 w 0)
hypervisor_return w =
    let zero_fits : 0 < 2 = lit< tt in
    record {
      virtualisation = put_there 7 w 0 zero_fits;
      others = λ i a. put_elsewhere 7 w 0 i zero_fits a;
    }

pub return_bits : ReturnBits
return_bits p Mret = (machine_return p.mstatus, refl, refl)
return_bits p SretHs = (supervisor_return p.mstatus, hypervisor_return p.hstatus, refl)
return_bits p SretVs = (refl, refl, supervisor_return p.vsstatus)

-- a return goes back: the fields that name the mode are those that the trap put
pub keeps_field : (k w v lo len : ℕ) → v < 2 → (lo + len ≤ k) ⊎ (k + 1 ≤ lo)
    → field_of lo len (with_field k 1 w v) ≡ field_of lo len w
keeps_field k w v lo len fits sides = put_leaves_others k 1 w v lo len fits sides

pub back_from_m : (w b : ℕ) (from : Mode) → b < 2
    → let new =
    with_field 3 1
    (with_field 7 1
    (with_field 39 1 (with_field 11 2 w (nominal from)) (guest from)) b) 0 in
    mode_of (field_of 11 2 new) (field_of 39 1 new) ≡ from
back_from_m w b from fits =
    let one = with_field 11 2 w (nominal from) in
    let two = with_field 39 1 one (guest from) in
    let three = with_field 7 1 two b in
    let zero_fits : 0 < 2 = lit< tt in
    let privilege : field_of 11 2 (with_field 3 1 three 0) ≡ nominal from =
    keeps_field 3 three 0 11 2 zero_fits (inr (lit≤ tt))
    ∙ keeps_field 7 two b 11 2 fits (inr (lit≤ tt))
    ∙ keeps_field 39 one (guest from) 11 2 (guest_fits from) (inl (lit≤ tt))
    ∙ get_after_put 11 2 w (nominal from) (nominal_fits from) in
    let v : field_of 39 1 (with_field 3 1 three 0) ≡ guest from =
    keeps_field 3 three 0 39 1 zero_fits (inr (lit≤ tt))
    ∙ keeps_field 7 two b 39 1 fits (inr (lit≤ tt))
    ∙ get_after_put 39 1 one (guest from) (guest_fits from) in
    (λ i. mode_of (privilege i) (v i)) ∙ named from
  where
    named : (m : Mode) → mode_of (nominal m) (guest m) ≡ m
    named M = refl
    named S = refl
    named U = refl
    named Vs = refl
    named Vu = refl

pub spp_put : (w b v : ℕ) → b < 2 → v < 2
    → field_of 8 1 (with_field 1 1 (with_field 5 1 (with_field 8 1 w v) b) 0) ≡ v
spp_put w b v fits_b fits_v =
    let one = with_field 8 1 w v in
    let zero_fits : 0 < 2 = lit< tt in
    keeps_field 1 (with_field 5 1 one b) 0 8 1 zero_fits (inr (lit≤ tt))
    ∙ keeps_field 5 one b 8 1 fits_b (inr (lit≤ tt)) ∙ get_after_put 8 1 w v fits_v

pub spv_put : (w : ℕ) (from : Mode) → field_of 7 1 (guest_left w from) ≡ guest from
spv_put w M = get_after_put 7 1 w 0 (lit< tt)
spv_put w S = get_after_put 7 1 w 0 (lit< tt)
spv_put w U = get_after_put 7 1 w 0 (lit< tt)
spv_put w Vs =
    keeps_field 8 (with_field 7 1 w 1) 1 7 1 (lit< tt) (inl (lit≤ tt))
    ∙ get_after_put 7 1 w 1 (lit< tt)
spv_put w Vu =
    keeps_field 8 (with_field 7 1 w 1) 0 7 1 (lit< tt) (inl (lit≤ tt))
    ∙ get_after_put 7 1 w 1 (lit< tt)

-- below M, and of a guest
pub named_below : (from : Mode) → IsTrue (is_trap_between from S)
    → mode_of (supervisor from) (guest from) ≡ from
named_below M between = absurd (both_ways false refl between)
named_below S between = refl
named_below U between = refl
named_below Vs between = refl
named_below Vu between = refl

pub named_in_guest : (from : Mode) → IsTrue (is_trap_between from Vs)
    → mode_of (supervisor from) 1 ≡ from
named_in_guest M between = absurd (both_ways false refl between)
named_in_guest S between = absurd (both_ways false refl between)
named_in_guest U between = absurd (both_ways false refl between)
named_in_guest Vs between = refl
named_in_guest Vu between = refl

pub delegate_is_taker : (p : Priv) (c : ℕ) (from : Mode) → IsTaker (exception_delegated p c from)
delegate_is_taker p c M = tt
delegate_is_taker p c S = tt
delegate_is_taker p c U = tt
delegate_is_taker p c Vs = either IsTaker (is_on p.hedeleg c) Vs S tt tt
delegate_is_taker p c Vu = either IsTaker (is_on p.hedeleg c) Vs S tt tt

pub target_is_taker : (p : Priv) (from : Mode) (t : Trap) → IsTaker (target_of p from t)
target_is_taker p from (Exception c) =
    either IsTaker (is_on p.medeleg c) (exception_delegated p c from) M
    (delegate_is_taker p c from) tt
target_is_taker p from (Interrupt i) =
    either IsTaker (is_on (delegated p) i) (cond (is_on p.hideleg i) Vs S) M
    (either IsTaker (is_on p.hideleg i) Vs S tt tt) tt

pub goes_back_from : (to : Mode) (p : Priv) (from : Mode) (t : Trap) (pc value : ℕ) → IsTaker to
    → IsTrue (is_trap_between from to)
    → (mode_after (after_trap_to to p from t pc value) (return_from to) ≡ from)
    × (pc_after (after_trap_to to p from t pc value) (return_from to) ≡ pc)
goes_back_from M p from t pc value taker between =
    (back_from_m p.mstatus (field_of 3 1 p.mstatus) from (bit_fits 3 p.mstatus), refl)
goes_back_from S p from t pc value taker between =
    let spp =
    spp_put p.mstatus (field_of 1 1 p.mstatus) (supervisor from) (bit_fits 1 p.mstatus)
    (supervisor_fits from) in
    let spv = spv_put p.hstatus from in
    ((λ i. mode_of (spp i) (spv i)) ∙ named_below from between, refl)
goes_back_from Vs p from t pc value taker between =
    let spp =
    spp_put p.vsstatus (field_of 1 1 p.vsstatus) (supervisor from) (bit_fits 1 p.vsstatus)
    (supervisor_fits from) in
    (ap (λ (n : ℕ). mode_of n 1) spp ∙ named_in_guest from between, refl)
goes_back_from U p from t pc value taker between = absurd taker
goes_back_from Vu p from t pc value taker between = absurd taker

pub return_goes_back : ReturnGoesBack
return_goes_back p from t pc value between =
    let to = target_of p from t in
    goes_back_from to p from (as_seen to t) pc value (target_is_taker p from t) between
