-- The first candidate is the one that no other comes before.
use Rattle.std.proofs.Common.{ℕ, ◌≡◌, ◌≢◌, ◌+◌, ◌*◌, ◌<◌, Bool, true, false, ◌&&◌, nat_eq, IsTrue, IsNone, IfSome, ◌↔◌, Option, Some, None, List, [], ◌∷◌, length, ◌⊎◌, inl, inr, refl, sym, ◌∙◌, ap, subst, arith}
use Rattle.std.proofs.lemmas.Bool.{and_parts, and_from, or_cases, or_left, or_right, eqb-true, eq-eqb, ne_eqb, cond-true, cond-false, both_ways, cases_Bool, cases_eq}
use Rattle.ctr_csrs.specs.declared.mode.Mode.{Mode}
use Rattle.ctr_csrs.specs.declared.mode.Mode.TheVariants.{M, S, U, Vs, Vu}
use Rattle.guest_modes.specs.declared.registers.Priv.{Priv}
use Rattle.guest_modes.specs.Interrupts.{allows, is_candidate, first_of, first_for, or_else, next_interrupt, rank, place_in, lateness, IsCandidate, IsFirst, NoCandidate}
use Rattle.guest_modes.specs.Numbers.{is_in}
use Rattle.guest_modes.specs.Traps.{interrupt_taker, is_same, interrupt_order, is_trap_between}
use Rattle.guest_modes.specs.Words.{is_on}

-- what a list's first number with a property says of it
pub first_passes : (test : ℕ → Bool) (ns : List ℕ) (i : ℕ) → first_of test ns ≡ Some i → (test i ≡ true) × (is_in i ns ≡ true)
first_passes test [] i e = absurd (cc)
first_passes test (n ∷ ns) i e = elim (cases_Bool (test n)) [
  | inl met ↦
      let same : n ≡ i = let found : Some n ≡ Some i = sym (cond-true (test n) (Some n) (first_of test ns) met) ∙ e in cc in
      (subst (λ (k : ℕ). test k ≡ true) same met, or_left (nat_eq n i) (is_in i ns) (eq-eqb n i same))
  | inr unmet ↦
      let more = first_passes test ns i (sym (cond-false (test n) (Some n) (first_of test ns) unmet) ∙ e) in
      (more.0, or_right (nat_eq n i) (is_in i ns) more.1)
]

-- no number with the property stands before it
pub first_before : (test : ℕ → Bool) (ns : List ℕ) (i j : ℕ) → first_of test ns ≡ Some i → test j ≡ true → j ≢ i → is_in j ns ≡ true → place_in i ns < place_in j ns
first_before test [] i j e t apart there = absurd (cc)
first_before test (n ∷ ns) i j e t apart there = elim (cases_Bool (test n)) [
  | inl met ↦
      let same : n ≡ i = let found : Some n ≡ Some i = sym (cond-true (test n) (Some n) (first_of test ns) met) ∙ e in cc in
      let here : place_in i (n ∷ ns) ≡ 0 = cond-true (nat_eq n i) 0 (1 + place_in i ns) (eq-eqb n i same) in
      let there : place_in j (n ∷ ns) ≡ 1 + place_in j ns = cond-false (nat_eq n j) 0 (1 + place_in j ns) (ne_eqb n j (λ q. apart (sym q ∙ same))) in
      omega (arith, here, there)
  | inr unmet ↦
      let found = sym (cond-false (test n) (Some n) (first_of test ns) unmet) ∙ e in
      let passes = first_passes test ns i found in
      let not_i : n ≢ i = λ q. both_ways (test n) unmet (subst (λ (k : ℕ). test k ≡ true) (sym q) passes.0) in
      let not_j : n ≢ j = λ q. both_ways (test n) unmet (subst (λ (k : ℕ). test k ≡ true) (sym q) t) in
      let at_i : place_in i (n ∷ ns) ≡ 1 + place_in i ns = cond-false (nat_eq n i) 0 (1 + place_in i ns) (ne_eqb n i not_i) in
      let at_j : place_in j (n ∷ ns) ≡ 1 + place_in j ns = cond-false (nat_eq n j) 0 (1 + place_in j ns) (ne_eqb n j not_j) in
      let more : is_in j ns ≡ true = elim (or_cases (nat_eq n j) (is_in j ns) there) [ inl q ↦ absurd (not_j (eqb-true n j q)) | inr q ↦ q ] in
      let before = first_before test ns i j found t apart more in
      omega (arith, at_i, at_j, before)
]

-- where there is no first number, none passes
pub none_passes : (test : ℕ → Bool) (ns : List ℕ) (j : ℕ) → first_of test ns ≡ None → is_in j ns ≡ true → test j ≡ false
none_passes test [] j e there = absurd (cc)
none_passes test (n ∷ ns) j e there = elim (cases_Bool (test n)) [
  | inl met ↦ let found : Some n ≡ None = sym (cond-true (test n) (Some n) (first_of test ns) met) ∙ e in absurd (cc)
  | inr unmet ↦ elim (or_cases (nat_eq n j) (is_in j ns) there) [
    | inl same ↦ subst (λ (k : ℕ). test k ≡ false) (eqb-true n j same) unmet
    | inr more ↦ none_passes test ns j (sym (cond-false (test n) (Some n) (first_of test ns) unmet) ∙ e) more
  ]
]

-- a place of a number of the list is below its length
pub place_below : (ns : List ℕ) (j : ℕ) → is_in j ns ≡ true → place_in j ns < length ns
place_below [] j there = absurd (cc)
place_below (n ∷ ns) j there = elim (cases_Bool (nat_eq n j)) [
  | inl same ↦ let here : place_in j (n ∷ ns) ≡ 0 = cond-true (nat_eq n j) 0 (1 + place_in j ns) same in omega (arith, here)
  | inr other ↦
      let more : is_in j ns ≡ true = elim (or_cases (nat_eq n j) (is_in j ns) there) [ inl q ↦ absurd (both_ways (nat_eq n j) other q) | inr q ↦ q ] in
      let here : place_in j (n ∷ ns) ≡ 1 + place_in j ns = cond-false (nat_eq n j) 0 (1 + place_in j ns) other in
      omega (arith, here, place_below ns j more)
]

pub same_is : (a b : Mode) → is_same a b ≡ true → a ≡ b
same_is M M e = refl
same_is S S e = refl
same_is U U e = refl
same_is Vs Vs e = refl
same_is Vu Vu e = refl
same_is M S e = absurd (cc)
same_is M U e = absurd (cc)
same_is M Vs e = absurd (cc)
same_is M Vu e = absurd (cc)
same_is S M e = absurd (cc)
same_is S U e = absurd (cc)
same_is S Vs e = absurd (cc)
same_is S Vu e = absurd (cc)
same_is U M e = absurd (cc)
same_is U S e = absurd (cc)
same_is U Vs e = absurd (cc)
same_is U Vu e = absurd (cc)
same_is Vs M e = absurd (cc)
same_is Vs S e = absurd (cc)
same_is Vs U e = absurd (cc)
same_is Vs Vu e = absurd (cc)
same_is Vu M e = absurd (cc)
same_is Vu S e = absurd (cc)
same_is Vu U e = absurd (cc)
same_is Vu Vs e = absurd (cc)

pub is_same-self : (a : Mode) → is_same a a ≡ true
is_same-self M = refl
is_same-self S = refl
is_same-self U = refl
is_same-self Vs = refl
is_same-self Vu = refl

-- an interrupt that a mode takes and lets in comes along a pair of modes
pub allowed_is_between : (p : Priv) (to from : Mode) → allows p to from ≡ true → is_trap_between from to ≡ true
allowed_is_between p M M e = refl
allowed_is_between p M S e = refl
allowed_is_between p M U e = refl
allowed_is_between p M Vs e = refl
allowed_is_between p M Vu e = refl
allowed_is_between p S M e = absurd (cc)
allowed_is_between p S S e = refl
allowed_is_between p S U e = refl
allowed_is_between p S Vs e = refl
allowed_is_between p S Vu e = refl
allowed_is_between p Vs M e = absurd (cc)
allowed_is_between p Vs S e = absurd (cc)
allowed_is_between p Vs U e = absurd (cc)
allowed_is_between p Vs Vs e = refl
allowed_is_between p Vs Vu e = refl
allowed_is_between p U from e = absurd (cc)
allowed_is_between p Vu from e = absurd (cc)

-- the tests of one mode that takes interrupts
abbrev pub open_to : Priv → Mode → Mode → ℕ → Bool
open_to p from to i = is_candidate p from i && is_same (interrupt_taker p i) to

-- what is known of the first candidate that a mode takes
pub record IsFirstFor (p : Priv) (from to : Mode) (i : ℕ) : Type 0 where
  pub candidate : IsCandidate p from i
  pub taker : interrupt_taker p i ≡ to
  pub place : place_in i interrupt_order < 10
  pub before : (j : ℕ) → IsCandidate p from j → (j ≡ i → ⊥) → interrupt_taker p j ≡ to → place_in i interrupt_order < place_in j interrupt_order

pub first_for_is : (p : Priv) (from to : Mode) (i : ℕ) → first_for p from to ≡ Some i → IsFirstFor p from to i
first_for_is p from to i e =
    let passes = first_passes (open_to p from to) interrupt_order i e in
    let parts = and_parts (is_candidate p from i) (is_same (interrupt_taker p i) to) passes.0 in
    record {
      candidate = and_from (is_in i interrupt_order) (is_candidate p from i) passes.1 parts.0;
      taker = same_is (interrupt_taker p i) to parts.1;
      place = place_below interrupt_order i passes.1;
      before = λ j c apart takes.
          let is = and_parts (is_in j interrupt_order) (is_candidate p from j) c in
          first_before (open_to p from to) interrupt_order i j e
          (and_from (is_candidate p from j) (is_same (interrupt_taker p j) to) is.1 (subst (λ (m : Mode). is_same m to ≡ true) (sym takes) (is_same-self to)))
          apart is.0;
    }

-- a mode that has no first candidate takes none
pub none_for : (p : Priv) (from to : Mode) (j : ℕ) → first_for p from to ≡ None → IsCandidate p from j → interrupt_taker p j ≡ to → ⊥
none_for p from to j e c takes =
    let is = and_parts (is_in j interrupt_order) (is_candidate p from j) c in
    both_ways (open_to p from to j) (none_passes (open_to p from to) interrupt_order j e is.0)
    (and_from (is_candidate p from j) (is_same (interrupt_taker p j) to) is.1 (subst (λ (m : Mode). is_same m to ≡ true) (sym takes) (is_same-self to)))

-- candidates are taken in M, S or VS
pub takers : (p : Priv) (from to : Mode) → allows p to from ≡ true → (to ≡ M) ⊎ ((to ≡ S) ⊎ (to ≡ Vs))
takers p from M e = inl refl
takers p from S e = inr (inl refl)
takers p from Vs e = inr (inr refl)
takers p from U e = absurd (cc)
takers p from Vu e = absurd (cc)

pub taker_is : (p : Priv) (from : Mode) (j : ℕ) → IsCandidate p from j → (interrupt_taker p j ≡ M) ⊎ ((interrupt_taker p j ≡ S) ⊎ (interrupt_taker p j ≡ Vs))
taker_is p from j c =
    let is = and_parts (is_in j interrupt_order) (is_candidate p from j) c in
    let enabled = and_parts (is_on p.mip j) (is_on p.mie j && allows p (interrupt_taker p j) from) is.1 in
    takers p from (interrupt_taker p j) (and_parts (is_on p.mie j) (allows p (interrupt_taker p j) from) enabled.1).1

pub candidate_is_between : (p : Priv) (from : Mode) (j : ℕ) → IsCandidate p from j → is_trap_between from (interrupt_taker p j) ≡ true
candidate_is_between p from j c =
    let is = and_parts (is_in j interrupt_order) (is_candidate p from j) c in
    let enabled = and_parts (is_on p.mip j) (is_on p.mie j && allows p (interrupt_taker p j) from) is.1 in
    allowed_is_between p (interrupt_taker p j) from (and_parts (is_on p.mie j) (allows p (interrupt_taker p j) from) enabled.1).1

pub late_by : (p : Priv) (i : ℕ) (to : Mode) → interrupt_taker p i ≡ to → lateness p i ≡ rank to * 10 + place_in i interrupt_order
late_by p i to e = ap (λ (m : Mode). rank m * 10 + place_in i interrupt_order) e

pub first_m : (p : Priv) (from : Mode) (i : ℕ) → first_for p from M ≡ Some i → IsFirst p from i
first_m p from i e =
    let first = first_for_is p from M i e in
    record {
      candidate = first.candidate;
      earliest = λ j c apart. elim (taker_is p from j c) [
        | inl m ↦ omega (arith, late_by p i M first.taker, late_by p j M m, first.before j c apart m)
        | inr below ↦ elim below [
          | inl s ↦ omega (arith, late_by p i M first.taker, late_by p j S s, first.place)
          | inr vs ↦ omega (arith, late_by p i M first.taker, late_by p j Vs vs, first.place)
        ]
      ];
    }

pub first_s : (p : Priv) (from : Mode) (i : ℕ) → first_for p from M ≡ None → first_for p from S ≡ Some i → IsFirst p from i
first_s p from i none e =
    let first = first_for_is p from S i e in
    record {
      candidate = first.candidate;
      earliest = λ j c apart. elim (taker_is p from j c) [
        | inl m ↦ absurd (none_for p from M j none c m)
        | inr below ↦ elim below [
          | inl s ↦ omega (arith, late_by p i S first.taker, late_by p j S s, first.before j c apart s)
          | inr vs ↦ omega (arith, late_by p i S first.taker, late_by p j Vs vs, first.place)
        ]
      ];
    }

pub first_vs : (p : Priv) (from : Mode) (i : ℕ) → first_for p from M ≡ None → first_for p from S ≡ None → first_for p from Vs ≡ Some i → IsFirst p from i
first_vs p from i none_m none_s e =
    let first = first_for_is p from Vs i e in
    record {
      candidate = first.candidate;
      earliest = λ j c apart. elim (taker_is p from j c) [
        | inl m ↦ absurd (none_for p from M j none_m c m)
        | inr below ↦ elim below [
          | inl s ↦ absurd (none_for p from S j none_s c s)
          | inr vs ↦ omega (arith, late_by p i Vs first.taker, late_by p j Vs vs, first.before j c apart vs)
        ]
      ];
    }

-- the interrupt that is next_interrupt is the first one
pub picked_is_first : (p : Priv) (from : Mode) (i : ℕ) → next_interrupt p from ≡ Some i → IsFirst p from i
picked_is_first p from i e = split (first_for p from M) (first_for p from S) (first_for p from Vs) refl refl refl
  where
    split : (m s vs : Option ℕ) → first_for p from M ≡ m → first_for p from S ≡ s → first_for p from Vs ≡ vs → IsFirst p from i
    split (Some n) s vs a b c =
        let found : Some n ≡ Some i = ap (λ (o : Option ℕ). or_else o (or_else (first_for p from S) (first_for p from Vs))) (sym a) ∙ e in
        first_m p from i (a ∙ found)
    split None (Some n) vs a b c =
        let found : Some n ≡ Some i = ap (λ (o : Option ℕ). or_else o (first_for p from Vs)) (sym b) ∙ ap (λ (o : Option ℕ). or_else o (or_else (first_for p from S) (first_for p from Vs))) (sym a) ∙ e in
        first_s p from i a (b ∙ found)
    split None None vs a b c =
        let found : first_for p from Vs ≡ Some i =
        ap (λ (o : Option ℕ). or_else o (first_for p from Vs)) (sym b) ∙ ap (λ (o : Option ℕ). or_else o (or_else (first_for p from S) (first_for p from Vs))) (sym a) ∙ e in
        first_vs p from i a b found

-- where none is next_interrupt there is no candidate
pub none_is_picked : (p : Priv) (from : Mode) → next_interrupt p from ≡ None → NoCandidate p from
none_is_picked p from e i candidate = split (first_for p from M) (first_for p from S) (first_for p from Vs) refl refl refl
  where
    split : (m s vs : Option ℕ) → first_for p from M ≡ m → first_for p from S ≡ s → first_for p from Vs ≡ vs → ⊥
    split (Some n) s vs a b c =
        let found : Some n ≡ None = ap (λ (o : Option ℕ). or_else o (or_else (first_for p from S) (first_for p from Vs))) (sym a) ∙ e in
        absurd (cc)
    split None (Some n) vs a b c =
        let found : Some n ≡ None = ap (λ (o : Option ℕ). or_else o (first_for p from Vs)) (sym b) ∙ ap (λ (o : Option ℕ). or_else o (or_else (first_for p from S) (first_for p from Vs))) (sym a) ∙ e in
        absurd (cc)
    split None None vs a b c =
        let found : first_for p from Vs ≡ None =
        ap (λ (o : Option ℕ). or_else o (first_for p from Vs)) (sym b) ∙ ap (λ (o : Option ℕ). or_else o (or_else (first_for p from S) (first_for p from Vs))) (sym a) ∙ e in
        elim (taker_is p from i candidate) [
          | inl m ↦ none_for p from M i a candidate m
          | inr below ↦ elim below [ inl s ↦ none_for p from S i b candidate s | inr vs ↦ none_for p from Vs i found candidate vs ]
        ]

-- what is said of an answer that is the next_interrupt interrupt
pub answer_is_first : (p : Priv) (from : Mode) (o : Option ℕ) → o ≡ next_interrupt p from → (i : ℕ) → (o ≡ Some i) ↔ IsFirst p from i
answer_is_first p from o e i = (λ found. picked_is_first p from i (sym e ∙ found), λ first. only o e first)
  where
    only : (o : Option ℕ) → o ≡ next_interrupt p from → IsFirst p from i → o ≡ Some i
    only None e first = absurd (none_is_picked p from (sym e) i first.candidate)
    only (Some k) e first = elim (cases_eq k i) [
      | inl same ↦ ap (λ (n : ℕ). Some n) same
      | inr apart ↦
          let other = picked_is_first p from k (sym e) in
          let sooner = first.earliest k other.candidate apart in
          let later = other.earliest i first.candidate (λ q. apart (sym q)) in
          absurd (omega (arith, sooner, later))
    ]

pub answer_is_none : (p : Priv) (from : Mode) (o : Option ℕ) → o ≡ next_interrupt p from → IsNone o ↔ NoCandidate p from
answer_is_none p from None e = (λ _. none_is_picked p from (sym e), λ _. refl)
answer_is_none p from (Some i) e = (λ h. absurd (cc), λ none. absurd (none i (picked_is_first p from i (sym e)).candidate))

pub answer_is_cause : (p : Priv) (from : Mode) (o : Option ℕ) → o ≡ next_interrupt p from → IfSome o (λ i. IsTrue (is_in i interrupt_order))
answer_is_cause p from None e = tt
answer_is_cause p from (Some i) e = (and_parts (is_in i interrupt_order) (is_candidate p from i) (picked_is_first p from i (sym e)).candidate).0

pub answer_is_between : (p : Priv) (from : Mode) (o : Option ℕ) → o ≡ next_interrupt p from → IfSome o (λ i. IsTrue (is_trap_between from (interrupt_taker p i)))
answer_is_between p from None e = tt
answer_is_between p from (Some i) e = candidate_is_between p from i (picked_is_first p from i (sym e)).candidate
