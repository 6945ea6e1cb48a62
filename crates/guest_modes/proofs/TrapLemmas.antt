-- What traps and returns write, by cases of the mode that takes the trap.
use Rattle.std.proofs.Common.{ℕ, ◌≡◌, ◌≢◌, ◌+◌, ◌^◌, Bool, true, false, cond, nat_eq, refl, ap, ◌∙◌}
use Rattle.std.proofs.lemmas.Bool.{ne_eqb}
use Rattle.ctr_csrs.specs.declared.mode.Mode.{Mode}
use Rattle.ctr_csrs.specs.declared.mode.Mode.TheVariants.{M, S, U, Vs, Vu}
use Rattle.guest_modes.specs.declared.registers.Priv.{Priv}
use Rattle.guest_modes.specs.declared.targets.Trap.{Trap}
use Rattle.guest_modes.specs.declared.targets.Trap.TheVariants.{Exception, Interrupt}
use Rattle.guest_modes.specs.Entry.{after_trap_to}
use Rattle.guest_modes.specs.Traps.{target_of, as_seen, cause_word, guest_number, IsTaker}
use Rattle.guest_modes.specs.TrapWrites.{interrupt_cause, IsCause, IsCauseInGuest, IsInterruptInGuest, TrapWritesIn, TrapWrites, ReturnWrites}
use Rattle.guest_modes.proofs.StatusLemmas.{target_is_taker}

pub cause_in_machine : (t : Trap) → IsCause t (cause_word (as_seen M t))
cause_in_machine (Exception c) = refl
cause_in_machine (Interrupt i) = refl

pub cause_in_supervisor : (t : Trap) → IsCause t (cause_word (as_seen S t))
cause_in_supervisor (Exception c) = refl
cause_in_supervisor (Interrupt i) = refl

-- numbers other than 2, 6 and 10 stay
pub same_number : (a b c : Bool) (i : ℕ) → a ≡ false → b ≡ false → c ≡ false
    → cond a 1 (cond b 5 (cond c 9 i)) ≡ i
same_number true b c i e f g = cc e
same_number false true c i e f g = cc f
same_number false false true i e f g = cc g
same_number false false false i e f g = refl

pub interrupt_in_guest : (i : ℕ) → IsInterruptInGuest i (interrupt_cause (guest_number i))
interrupt_in_guest i = record {
  software = λ e. ap (λ (n : ℕ). interrupt_cause (guest_number n)) e;
  timer = λ e. ap (λ (n : ℕ). interrupt_cause (guest_number n)) e;
  external = λ e. ap (λ (n : ℕ). interrupt_cause (guest_number n)) e;
  others = λ two six ten.
      ap interrupt_cause
      (same_number (nat_eq i 2) (nat_eq i 6) (nat_eq i 10) i (ne_eqb i 2 two) (ne_eqb i 6 six)
      (ne_eqb i 10 ten));
}

pub cause_in_guest : (t : Trap) → IsCauseInGuest t (cause_word (as_seen Vs t))
cause_in_guest (Exception c) = refl
cause_in_guest (Interrupt i) = interrupt_in_guest i

pub writes_in : (to from : Mode) (p : Priv) (t : Trap) (pc value : ℕ) → IsTaker to
    → TrapWritesIn to t pc value p (after_trap_to to p from (as_seen to t) pc value)
writes_in M from p t pc value taker = record {
  address = refl;
  cause = cause_in_machine t;
  value_kept = refl;
  second_value = refl;
  instruction = refl;
  others = refl;
}
writes_in S from p t pc value taker = record {
  address = refl;
  cause = cause_in_supervisor t;
  value_kept = refl;
  guest_value = refl;
  instruction = refl;
  others = refl;
}
writes_in Vs from p t pc value taker = record {
  address = refl;
  cause = cause_in_guest t;
  value_kept = refl;
  others = refl;
}
writes_in U from p t pc value taker = absurd taker
writes_in Vu from p t pc value taker = absurd taker

pub trap_writes : TrapWrites
trap_writes p from t pc value =
    writes_in (target_of p from t) from p t pc value (target_is_taker p from t)

pub return_writes : ReturnWrites
return_writes p = record { machine = refl; supervisor = refl; guest = refl }
