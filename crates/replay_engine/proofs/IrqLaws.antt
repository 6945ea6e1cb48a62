-- Interrupts in their order: one more after others, and those that come before, at and after a
-- step.
use Rattle.std.proofs.Common.{◌≡◌, inl, inr, ℕ, zero, suc, ◌+◌, ◌^◌, ◌<◌, ◌≤◌, List, [], ◌∷◌, ◌++◌}
use Rattle.std.proofs.Common.{length, drop, get_or, ◌-◌, nat_eq, nat_lt, Bool, true, false, cond}
use Rattle.std.proofs.Common.{Option, Some, None, refl, sym, ap, ◌∙◌, subst, arith}
use Rattle.std.specs.Prelude.{bit_or, bit_and, ⊤}
use Rattle.std.proofs.lemmas.List.{drop_more, drop_all}
use Rattle.std.proofs.lemmas.List.Elements.{All-push}
use Rattle.std.proofs.lemmas.Nat.Bits.{bit_at_and, bit_at_or, same_from_bits}
use Rattle.ctr_bits.specs.MaskBits.{bit_within}
use Rattle.guest_modes.specs.Words.{IsWithin}
use Rattle.rv_hart.specs.Task.{Irq, causes}
use Rattle.replay_engine.specs.Irqs.{IsIrq, IsAbove, IsNext, rise_from, Rise, last_from, CanFollow}
use Rattle.replay_engine.specs.Irqs.{AreIrqs, place_of, no_irq, IsDue, IsEarly, step_at}

rise_more : (before : Option Irq) (irqs : List Irq) (irq : Irq) → rise_from before irqs →
    IsNext (last_from before irqs) irq → rise_from before (irqs ++ irq ∷ [])
rise_more before [] irq rise above = (above, tt)
rise_more before (x ∷ xs) irq rise above = (rise.0, rise_more (Some x) xs irq rise.1 above)

pub last_more : (before : Option Irq) (irqs : List Irq) (irq : Irq) →
    last_from before (irqs ++ irq ∷ []) ≡ Some irq
last_more before [] irq = refl
last_more before (x ∷ xs) irq = last_more (Some x) xs irq

-- one that can follow makes a longer list of the same kind
pub irqs_more : (irqs : List Irq) (irq : Irq) → AreIrqs irqs → IsIrq irq → CanFollow irqs irq →
    AreIrqs (irqs ++ irq ∷ [])
irqs_more irqs irq are is follows = record {
  each = All-push IsIrq irqs irq are.each is;
  rise = rise_more None irqs irq are.rise follows;
}

pub no_irqs : AreIrqs []
no_irqs = record { each = λ k d within. absurd (omega (arith, within)); rise = tt }

rise_next : (before : Option Irq) (irqs : List Irq) (irq : Irq) (more : List Irq) →
    rise_from before (irqs ++ irq ∷ more) → IsNext (last_from before irqs) irq
rise_next before [] irq more rise = rise.0
rise_next before (x ∷ xs) irq more rise = rise_next (Some x) xs irq more rise.1

-- what follows others in a list can follow them
pub follows_in : (irqs : List Irq) (irq : Irq) (more : List Irq) → Rise (irqs ++ irq ∷ more) →
    CanFollow irqs irq
follows_in irqs irq more rise = rise_next None irqs irq more rise

-- none comes before this step
abbrev pub not_before : ℕ → List Irq → Type 0
not_before step [] = ⊤
not_before step (irq ∷ irqs) = (step ≤ irq.step) × not_before step irqs

above_later : (x y : Irq) → IsAbove x y → x.step ≤ y.step
above_later x y (inl later) = omega (arith, later)
above_later x y (inr same) = omega (arith, same.0)

pub none_before : (step : ℕ) (x : Irq) (xs : List Irq) → step ≤ x.step → rise_from (Some x) xs →
    not_before step xs
none_before step x [] h rise = tt
none_before step x (y ∷ ys) h rise =
    let later : step ≤ y.step = omega (arith, h, above_later x y rise.0) in
    (later, none_before step y ys later rise.1)

any_rise : (before : Option Irq) (irqs : List Irq) → rise_from before irqs → Rise irqs
any_rise before [] rise = tt
any_rise before (x ∷ xs) rise = (tt, rise.1)

drop_rise : (n : ℕ) (before : Option Irq) (irqs : List Irq) → rise_from before irqs →
    Rise (drop n irqs)
drop_rise zero before irqs rise = any_rise before irqs rise
drop_rise (suc n) before [] rise = tt
drop_rise (suc n) before (x ∷ xs) rise = drop_rise n (Some x) xs rise.1

not_lt : (n m : ℕ) → n ≤ m → nat_lt m n ≡ false
not_lt n m h = grind (arith, h)

not_eq : (n m : ℕ) → n < m → nat_eq m n ≡ false
not_eq n m h = grind (arith, h)

is_eq : (n m : ℕ) → m ≡ n → nat_eq m n ≡ true
is_eq n m h = grind (arith, h)

is_lt : (n m : ℕ) → m < n → nat_lt m n ≡ true
is_lt n m h = grind (arith, h)

-- those of later steps raise nothing, and none of them comes before the next step
pub none_raised : (step : ℕ) (irqs : List Irq) → not_before (step + 1) irqs → causes irqs step ≡ 0
none_raised step [] h = refl
none_raised step (x ∷ xs) h =
    ap (λ (b : Bool). cond b (bit_or (2 ^ x.cause) (causes xs step)) (causes xs step))
    (not_eq step x.step (omega (arith, h.0)))
    ∙ none_raised step xs h.1

pub none_placed : (step : ℕ) (irqs : List Irq) → not_before step irqs → place_of irqs step ≡ 0
none_placed step [] h = refl
none_placed step (x ∷ xs) h =
    ap (λ (b : Bool). cond b (suc (place_of xs step)) (place_of xs step)) (not_lt step x.step h.0)
    ∙ none_placed step xs h.1

-- what is left of a list in its order from the place of a step on
pub from_place : (step : ℕ) (before : Option Irq) (irqs : List Irq) → rise_from before irqs →
    not_before step (drop (place_of irqs step) irqs)
from_place step before [] rise = tt
from_place step before (x ∷ xs) rise =
    elim (nat_lt x.step step) as (λ b. nat_lt x.step step ≡ b →
    not_before step (drop (cond b (suc (place_of xs step)) (place_of xs step)) (x ∷ xs))) [
      | true ↦ λ e. from_place step (Some x) xs rise.1
      | false ↦ λ e.
          let here : step ≤ x.step = grind (arith, e) in
          let rest = none_before step x xs here rise.1 in
          subst (λ (n : ℕ). not_before step (drop n (x ∷ xs))) (sym (none_placed step xs rest))
          (here, rest)
    ] refl

pub place_within : (step : ℕ) (irqs : List Irq) → place_of irqs step ≤ length irqs
place_within step [] = omega arith
place_within step (x ∷ xs) = elim (nat_lt x.step step) as
    (λ b. cond b (suc (place_of xs step)) (place_of xs step) ≤ suc (length xs)) [
      | true ↦ omega (arith, place_within step xs)
      | false ↦ omega (arith, place_within step xs)
    ]

-- those before a step raise nothing at it
pub raised_from : (step : ℕ) (before : Option Irq) (irqs : List Irq) → rise_from before irqs →
    causes (drop (place_of irqs step) irqs) step ≡ causes irqs step
raised_from step before [] rise = refl
raised_from step before (x ∷ xs) rise =
    elim (nat_lt x.step step) as (λ b. nat_lt x.step step ≡ b →
    causes (drop (cond b (suc (place_of xs step)) (place_of xs step)) (x ∷ xs)) step
    ≡ causes (x ∷ xs) step) [
      | true ↦ λ e.
          let other : nat_eq x.step step ≡ false = grind (arith, e) in
          raised_from step (Some x) xs rise.1
          ∙ ap (λ (b : Bool). cond b (bit_or (2 ^ x.cause) (causes xs step)) (causes xs step))
          (sym other)
      | false ↦ λ e.
          let here : step ≤ x.step = grind (arith, e) in
          ap (λ (n : ℕ). causes (drop n (x ∷ xs)) step)
          (none_placed step xs (none_before step x xs here rise.1))
    ] refl

-- a later place is counted from an earlier one
pub placed_from : (step : ℕ) (before : Option Irq) (irqs : List Irq) → rise_from before irqs
    → place_of irqs (step + 1)
    ≡ place_of irqs step + place_of (drop (place_of irqs step) irqs) (step + 1)
placed_from step before [] rise = refl
placed_from step before (x ∷ xs) rise = elim (nat_lt x.step step) as (λ b. nat_lt x.step step ≡ b
    → place_of (x ∷ xs) (step + 1)
    ≡ cond b (suc (place_of xs step)) (place_of xs step) + place_of
    (drop (cond b (suc (place_of xs step)) (place_of xs step)) (x ∷ xs)) (step + 1)) [
      | true ↦ λ e.
          let before : nat_lt x.step (step + 1) ≡ true = grind (arith, e) in
          ap (λ (b : Bool). cond b (suc (place_of xs (step + 1))) (place_of xs (step + 1))) before
          ∙ grind (arith, placed_from step (Some x) xs rise.1)
      | false ↦ λ e.
          let here : step ≤ x.step = grind (arith, e) in
          let whole : place_of (x ∷ xs) (step + 1)
          ≡ 0 + place_of (x ∷ xs) (step + 1) = omega arith in
          whole ∙ ap (λ (n : ℕ). n + place_of (drop n (x ∷ xs)) (step + 1))
          (sym (none_placed step xs (none_before step x xs here rise.1)))
    ] refl

-- where none is due at a place, none from it on comes before the next step
pub not_due : (step at : ℕ) (irqs : List Irq) → Rise irqs → not_before step (drop at irqs) →
    (IsDue irqs at step → ⊥) → not_before (step + 1) (drop at irqs)
not_due step at irqs rise from none =
    elim (nat_lt at (length irqs)) as (λ b. nat_lt at (length irqs)
    ≡ b → not_before (step + 1) (drop at irqs)) [
      | true ↦ λ e.
          let within : at < length irqs = grind (arith, e) in
          let x = get_or irqs at no_irq in
          let parts = drop_more irqs at no_irq within in
          let here = subst (not_before step) parts from in
          let order = subst (λ (xs : List Irq). Rise xs) parts (drop_rise at None irqs rise) in
          let other : x.step ≡ step → ⊥ =
          λ same. none (record { within = within; at_step = same }) in
          let later : step + 1 ≤ x.step = grind (arith, here.0, other) in
          subst (not_before (step + 1)) (sym parts)
          (later, none_before (step + 1) x (drop (at + 1) irqs) later order.1)
      | false ↦ λ e.
          let past : length irqs ≤ at = grind (arith, e) in
          subst (not_before (step + 1)) (sym (drop_all at irqs past)) tt
    ] refl

or_joined : (a b c : ℕ) → bit_or a (bit_or b c) ≡ bit_or (bit_or a b) c
or_joined a b c = same_from_bits (bit_or a (bit_or b c)) (bit_or (bit_or a b) c) (λ i.
    omega (
      arith,
      bit_at_or a (bit_or b c) i,
      bit_at_or b c i,
      bit_at_or (bit_or a b)
          c i,
      bit_at_or a b i,
    ))

-- the one that is due at a place is raised, and is left behind
pub due_raised : (step at bits : ℕ) (irqs : List Irq) → IsDue irqs at step
    → bit_or bits (causes (drop at irqs) step)
    ≡ bit_or (bit_or bits (2 ^ (get_or irqs at no_irq).cause))
    (causes (drop (at + 1) irqs) step)
due_raised step at bits irqs due =
    let x = get_or irqs at no_irq in
    let rest = causes (drop (at + 1) irqs) step in
    ap (λ (xs : List Irq). bit_or bits (causes xs step)) (drop_more irqs at no_irq due.within)
    ∙ ap (λ (b : Bool). bit_or bits (cond b (bit_or (2 ^ x.cause) rest) rest))
    (is_eq step x.step due.at_step)
    ∙ or_joined bits (2 ^ x.cause) rest

pub due_placed : (step at : ℕ) (irqs : List Irq) → IsDue irqs at step →
    at + place_of (drop at irqs) (step + 1) ≡ (at + 1) + place_of (drop (at + 1) irqs) (step + 1)
due_placed step at irqs due =
    let x = get_or irqs at no_irq in
    let rest = place_of (drop (at + 1) irqs) (step + 1) in
    ap (λ (xs : List Irq). at + place_of xs (step + 1)) (drop_more irqs at no_irq due.within)
    ∙ ap (λ (b : Bool). at + cond b (suc rest) rest)
    (is_lt (step + 1) x.step (omega (arith, due.at_step)))
    ∙ omega arith

pub due_from : (step at : ℕ) (irqs : List Irq) → IsDue irqs at step →
    not_before step (drop at irqs) → not_before step (drop (at + 1) irqs)
due_from step at irqs due from =
    (subst (not_before step) (drop_more irqs at no_irq due.within) from).1

-- two words within a mask are so together
pub within_both : (mask a b : ℕ) → IsWithin mask a → IsWithin mask b → IsWithin mask (bit_or a b)
within_both mask a b p q = same_from_bits (bit_and (bit_or a b) mask) (bit_or a b) (λ i.
    omega (
      arith,
      bit_at_and (bit_or a b) mask i,
      bit_at_or a b i,
      bit_within mask a i p,
      bit_within
          mask b i q,
    ))

-- none before a step in a list: so the one at each place
at_step_or_later : (step k : ℕ) (irqs : List Irq) → not_before step irqs → k < length irqs →
    step ≤ (get_or irqs k no_irq).step
at_step_or_later step k [] none within = absurd (omega (arith, within))
at_step_or_later step zero (x ∷ xs) none within = none.0
at_step_or_later step (suc k) (x ∷ xs) none within =
    at_step_or_later step k xs none.1 (omega (arith, within))

-- where the one at a place comes before a step, so do all up to it
pub early_place : (step at : ℕ) (before : Option Irq) (irqs : List Irq) → rise_from before irqs →
    IsEarly irqs at step
    → place_of irqs step ≡ (at + 1) + place_of (drop (at + 1) irqs) step
early_place step at before [] rise early = absurd (omega (arith, early.within))
early_place step zero before (x ∷ xs) rise early =
    ap (λ (b : Bool). cond b (suc (place_of xs step)) (place_of xs step))
    (is_lt step x.step early.before) ∙ omega arith
early_place step (suc k) before (x ∷ xs) rise early =
    let within : k < length xs = omega (arith, early.within) in
    let rest = early_place step k (Some x) xs rise.1
    (record { within = within; before = early.before }) in
    let shift : suc (k + 1) ≡ suc k + 1 = omega arith in
    let here : place_of (x ∷ xs) step ≡ suc (k + 1) + place_of (drop (k + 1) xs) step =
    elim (nat_lt x.step step) as (λ b. nat_lt x.step step ≡ b →
    cond b (suc (place_of xs step)) (place_of xs step)
    ≡ suc (k + 1) + place_of (drop (k + 1) xs) step) [
      | true ↦ λ e. omega (arith, rest)
      | false ↦ λ e.
          let here : step ≤ x.step = grind (arith, e) in
          absurd (omega (
            arith,
            at_step_or_later step k xs (none_before step x xs here rise.1)
                within,
            early.before,
          ))
    ] refl in
    here ∙ ap (λ (j : ℕ). j + place_of (drop j (x ∷ xs)) step) shift

-- one that comes before a step is counted, and is left behind
pub early_counted : (step at : ℕ) (irqs : List Irq) → IsEarly irqs at step →
    at + place_of (drop at irqs) step ≡ (at + 1) + place_of (drop (at + 1) irqs) step
early_counted step at irqs early =
    let x = get_or irqs at no_irq in
    let rest = place_of (drop (at + 1) irqs) step in
    ap (λ (xs : List Irq). at + place_of xs step) (drop_more irqs at no_irq early.within)
    ∙ ap (λ (b : Bool). at + cond b (suc rest) rest) (is_lt step x.step early.before)
    ∙ omega arith

-- where the one at a place doesn't come before a step, none from it on does
pub not_early : (step at : ℕ) (irqs : List Irq) → Rise irqs →
    (IsEarly irqs at step → ⊥) → place_of (drop at irqs) step ≡ 0
not_early step at irqs rise none = elim (nat_lt at (length irqs)) as (λ b. nat_lt at (length irqs)
    ≡ b → place_of (drop at irqs) step ≡ 0) [
      | true ↦ λ e.
          let within : at < length irqs = grind (arith, e) in
          let x = get_or irqs at no_irq in
          let parts = drop_more irqs at no_irq within in
          let order = subst (λ (xs : List Irq). Rise xs) parts (drop_rise at None irqs rise) in
          let other : x.step < step → ⊥ =
          λ before. none (record { within = within; before = before }) in
          let later : step ≤ x.step = grind (arith, other) in
          none_placed step (drop at irqs)
          (subst (not_before step) (sym parts) (
            later,
            none_before step x (drop (at + 1) irqs)
                later order.1,
          ))
      | false ↦ λ e.
          let past : length irqs ≤ at = grind (arith, e) in
          ap (λ (xs : List Irq). place_of xs step) (drop_all at irqs past)
    ] refl

-- one that is due at a place is due at the step of that place
due_step : (step at : ℕ) (irqs : List Irq) → IsDue irqs at step → step ≡ step_at irqs at
due_step step at irqs due =
    sym due.at_step ∙ sym
    (ap (λ (b : Bool). cond b (get_or irqs at no_irq).step (2 ^ 64 - 1))
    (is_lt (length irqs) at due.within))

-- in a step that isn't that of its place none is due
none_at : (step : ℕ) (irqs : List Irq) → Rise irqs →
    (step ≡ step_at irqs (place_of irqs step) → ⊥) →
    not_before (step + 1) (drop (place_of irqs step) irqs)
none_at step irqs rise other =
    not_due step (place_of irqs step) irqs rise (from_place step None irqs rise)
    (λ due. other (due_step step (place_of irqs step) irqs due))

pub nothing_raised : (step : ℕ) (irqs : List Irq) → Rise irqs →
    (step ≡ step_at irqs (place_of irqs step) → ⊥) → 0 ≡ causes irqs step
nothing_raised step irqs rise other =
    sym (none_raised step (drop (place_of irqs step) irqs) (none_at step irqs rise other))
    ∙ raised_from step None irqs rise

pub same_place : (step : ℕ) (irqs : List Irq) → Rise irqs →
    (step ≡ step_at irqs (place_of irqs step) → ⊥) →
    place_of irqs step ≡ place_of irqs (step + 1)
same_place step irqs rise other =
    omega (
      arith,
      placed_from step None irqs rise,
      none_placed (step + 1) (drop (place_of irqs step) irqs) (none_at step irqs rise other),
    )
