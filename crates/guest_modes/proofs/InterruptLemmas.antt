-- The bits of the masks of interrupts and exceptions, one by one up to the highest.
use Rattle.std.proofs.Common.{ℕ, zero, suc, ◌≡◌, ◌%◌, ◌^◌, ◌<◌, ◌≤◌, Bool, true, false, ◌&&◌, ◌||◌, not, nat_eq, nat_lt, ltb, List, [], ◌∷◌, bit_and, refl, sym, subst, ◌∙◌, ap, inl, inr, arith, lit<}
use Rattle.std.specs.List.{list_all}
use Rattle.std.proofs.lemmas.Bool.{cases_lt, cases_Bool, eqb-true, ne_eqb, le-ltb, ltb-true, and_parts, or_cases, both_ways}
use Rattle.std.proofs.Math.Nat.{div-eq_of_lt, pow-le-pow_right}
use Rattle.guest_modes.specs.declared.causes.TheConstants.{INTERRUPTS}
use Rattle.guest_modes.specs.declared.targets.Trap.TheVariants.{Exception}
use Rattle.guest_modes.specs.InterruptLaws.{MaskHasInterrupts, InterruptsWithin, DelegatesInterrupts, DelegatesExceptions}
use Rattle.guest_modes.specs.Numbers.{is_in}
use Rattle.guest_modes.specs.Traps.{interrupt_order, is_cause}
use Rattle.guest_modes.specs.Words.{is_on}

abbrev pub same : Bool → Bool → Bool
same true b = b
same false b = not b

pub same_is : (a b : Bool) → same a b ≡ true → a ≡ b
same_is true true e = refl
same_is true false e = sym e
same_is false true e = e
same_is false false e = refl

abbrev pub all_below : ℕ → (ℕ → Bool) → Bool
all_below zero test = true
all_below (suc n) test = test n && all_below n test

pub below_passes : (n : ℕ) (test : ℕ → Bool) (i : ℕ) → all_below n test ≡ true → i < n
    → test i ≡ true
below_passes zero test i e less = absurd (omega (arith, less))
below_passes (suc n) test i e less =
    let parts = and_parts (test n) (all_below n test) e in
    elim (cases_lt i n) [
      | inl below ↦ below_passes n test i parts.1 below
      | inr least ↦ let is : i ≡ n = omega (arith, less, least) in ap test is ∙ parts.0
    ]

-- a bit above the highest of a mask
pub off_above : (mask n i : ℕ) → mask < 2 ^ n → n ≤ i → is_on mask i ≡ false
off_above mask n i fits above =
    let two : 0 < 2 = lit< tt in
    let more : 2 ^ n ≤ 2 ^ i = pow-le-pow_right two above in
    let less : mask < 2 ^ i = omega (arith, fits, more) in
    ap (λ (q : ℕ). nat_eq (q % 2) 1) (div-eq_of_lt less)

pub passes_in : (test : ℕ → Bool) (ns : List ℕ) (n : ℕ) → is_in n ns ≡ true
    → list_all test ns ≡ true → test n ≡ true
passes_in test [] n e all = absurd (both_ways false refl e)
passes_in test (m ∷ ms) n e all =
    let parts = and_parts (test m) (list_all test ms) all in
    elim (or_cases (nat_eq m n) (is_in n ms) e) [
      | inl here ↦ subst (λ (k : ℕ). test k ≡ true) (eqb-true m n here) parts.0
      | inr later ↦ passes_in test ms n later parts.1
    ]

pub none_above : (places : List ℕ) (n i : ℕ) → list_all (λ (k : ℕ). ltb k n) places ≡ true
    → n ≤ i → is_in i places ≡ false
none_above places n i all above = elim (cases_Bool (is_in i places)) [
  | inl there ↦
      let less : i < n = ltb-true i n (passes_in (λ (k : ℕ). ltb k n) places i there all) in
      absurd (omega (arith, less, above))
  | inr gone ↦ gone
]

-- a mask has a bit where a test says so, as it is below some place, and nothing stands above it
pub mask_is : (mask n : ℕ) (there : ℕ → Bool) → mask < 2 ^ n
    → all_below n (λ (i : ℕ). same (is_on mask i) (there i)) ≡ true
    → ((i : ℕ) → n ≤ i → there i ≡ false) → (i : ℕ) → is_on mask i ≡ there i
mask_is mask n there fits below none i = elim (cases_lt i n) [
  | inl less ↦
      same_is (is_on mask i) (there i)
      (below_passes n (λ (k : ℕ). same (is_on mask k) (there k)) i below less)
  | inr above ↦ off_above mask n i fits above ∙ sym (none i above)
]

-- the same of a list of places
pub mask_has : (mask n : ℕ) (places : List ℕ) → mask < 2 ^ n
    → all_below n (λ (i : ℕ). same (is_on mask i) (is_in i places)) ≡ true
    → list_all (λ (k : ℕ). ltb k n) places ≡ true → (i : ℕ) → is_on mask i ≡ is_in i places
mask_has mask n places fits below all =
    mask_is mask n (λ (i : ℕ). is_in i places) fits below
    (λ (i : ℕ) (above : n ≤ i). none_above places n i all above)

pub interrupts_has : (i : ℕ) → is_on INTERRUPTS i ≡ is_in i interrupt_order
interrupts_has = mask_has 0x2EEE 14 interrupt_order (lit< tt) refl refl

pub mask_has_interrupts : MaskHasInterrupts
mask_has_interrupts p = record { word = refl; mask = refl; bits = interrupts_has }

pub delegates_interrupts : DelegatesInterrupts
delegates_interrupts p = record {
  machine = mask_has 0x2666 14 (1 ∷ 2 ∷ 5 ∷ 6 ∷ 9 ∷ 10 ∷ 13 ∷ []) (lit< tt) refl refl;
  hypervisor = mask_has 0x2444 14 (2 ∷ 6 ∷ 10 ∷ 13 ∷ []) (lit< tt) refl refl;
}

pub interrupts_within : InterruptsWithin
interrupts_within i is =
    eqb-true (bit_and (2 ^ i) INTERRUPTS) (2 ^ i)
    (passes_in (λ (n : ℕ). nat_eq (bit_and (2 ^ n) INTERRUPTS) (2 ^ n)) interrupt_order i is refl)

abbrev pub delegable : ℕ → Bool
delegable c = is_cause (Exception c) && not (nat_eq c 11)

pub not_delegable : (c : ℕ) → 23 ≤ c → delegable c ≡ false
not_delegable c above =
    let low : ltb c 12 ≡ false = le-ltb c 12 (omega (arith, above)) in
    let other : nat_eq c 22 ≡ false = ne_eqb c 22 (λ e. omega (arith, e, above)) in
    λ k. (low k || other k) && not (nat_eq c 11)

pub not_below_nine : (c : ℕ) → 9 ≤ c → nat_lt c 9 ≡ false
not_below_nine c above = le-ltb c 9 above

pub delegates_exceptions : DelegatesExceptions
delegates_exceptions p = record {
  machine = mask_is 0x4007FF 23 delegable (lit< tt) refl not_delegable;
  hypervisor = mask_is 0x1FF 9 (λ (c : ℕ). nat_lt c 9) (lit< tt) refl not_below_nine;
}
