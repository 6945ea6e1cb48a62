-- What a task begins with, and what becomes pending at its steps.
use Rattle.std.proofs.Common.{◌≡◌, refl, ap, subst, ℕ, ◌^◌, ◌/◌, ◌%◌, Bool, true, false, IsTrue, nat_eq, List, [], ◌∷◌, cond, inl, inr, bit_and, bit_or, arith}
use Rattle.std.specs.List.{list_all}
use Rattle.std.proofs.lemmas.Bool.{and_parts, or_cases, eqb-true}
use Rattle.std.proofs.lemmas.Nat.Bits.{bit_at_and, bit_at_or, same_from_bits}
use Rattle.std.proofs.lemmas.List.{length-replicate}
use Rattle.ctr_bits.specs.MaskBits.{mask_twice}
use Rattle.ctr_csrs.specs.ControlFigure.{m_mask, s_mask}
use Rattle.ctr_csrs.specs.Depths.{entries_of}
use Rattle.ctr_csrs.specs.RegisterLaws.{least_entries}
use Rattle.ctr_buffer.specs.Entry.{zero_entry}
use Rattle.guest_modes.specs.declared.causes.TheConstants.{INTERRUPTS}
use Rattle.guest_modes.specs.Numbers.{is_in}
use Rattle.guest_modes.specs.Words.{IsWithin}
use Rattle.guest_modes.specs.Traps.{is_cause, interrupt_order}
use Rattle.guest_modes.specs.declared.targets.Trap.TheVariants.{Interrupt}
use Rattle.indirect_regs.specs.Unit.{IsUnit}
use Rattle.rv_hart.specs.Task.{Task, Irq, causes, AreInterrupts}
use Rattle.rv_hart.specs.Lone.{first_state}

-- the first state keeps to what every unit keeps to
pub first_unit : (t : Task) → IsUnit (first_state t).unit
first_unit t = record {
  controls = record { m = mask_twice m_mask t.mctrctl; vs = mask_twice s_mask t.vsctrctl; select = omega arith };
  stack = record { full = length-replicate (entries_of t.depth) zero_entry; within = omega (arith, least_entries t.depth) };
}

-- a number of the list passes what every number of the list passes
pub passes_in : (test : ℕ → Bool) (ns : List ℕ) (n : ℕ) → is_in n ns ≡ true → list_all test ns ≡ true → test n ≡ true
passes_in test [] n e all = absurd (cc)
passes_in test (m ∷ ms) n e all =
    let parts = and_parts (test m) (list_all test ms) all in
    elim (or_cases (nat_eq m n) (is_in n ms) e) [
      | inl same ↦ subst (λ (k : ℕ). test k ≡ true) (eqb-true m n same) parts.0
      | inr more ↦ passes_in test ms n more parts.1
    ]

pub cause_within : (i : ℕ) → IsTrue (is_cause (Interrupt i)) → IsWithin INTERRUPTS (2 ^ i)
cause_within i is =
    eqb-true (bit_and (2 ^ i) INTERRUPTS) (2 ^ i) (passes_in (λ (n : ℕ). nat_eq (bit_and (2 ^ n) INTERRUPTS) (2 ^ n)) interrupt_order i is refl)

pub or_within : (mask a b : ℕ) → IsWithin mask a → IsWithin mask b → IsWithin mask (bit_or a b)
or_within mask a b p q = same_from_bits (bit_and (bit_or a b) mask) (bit_or a b) (λ i.
    let same_a = ap (λ (n : ℕ). n / 2 ^ i % 2) p in
    let same_b = ap (λ (n : ℕ). n / 2 ^ i % 2) q in
    omega (arith, bit_at_and (bit_or a b) mask i, bit_at_or a b i, bit_at_and a mask i, bit_at_and b mask i, same_a, same_b))

pub within_either : (b : Bool) (x y : ℕ) → IsWithin INTERRUPTS x → IsWithin INTERRUPTS y → IsWithin INTERRUPTS (cond b x y)
within_either true x y at_x at_y = at_x
within_either false x y at_x at_y = at_y

pub causes_within : (irqs : List Irq) (n : ℕ) → AreInterrupts irqs → IsWithin INTERRUPTS (causes irqs n)
causes_within [] n are = refl
causes_within (q ∷ qs) n are =
    let later = causes_within qs n are.1 in
    within_either (nat_eq q.step n) (bit_or (2 ^ q.cause) (causes qs n)) (causes qs n)
    (or_within INTERRUPTS (2 ^ q.cause) (causes qs n) (cause_within q.cause are.0) later) later
