-- The entries with V after a history are the visible ones: the balance that is carried along the
-- events, against the stack.
use Rattle.std.proofs.Common.{◌≡◌, ℕ, zero, suc, ◌-◌, ◌*◌, ◌/◌, ◌%◌, ◌<◌, ◌⊎◌, inl, inr, Bool, true, false, cond, nat_eq, List, [], ◌∷◌, ◌++◌, length, take, get_or, slice_set, replicate, fold, refl, sym, ◌∙◌, ap, arith}
use Rattle.std.proofs.Math.ListN.{get_or-eq_default}
use Rattle.std.proofs.lemmas.Bool.{cases_lt, cases_Bool}
use Rattle.std.proofs.lemmas.List.{get_or-take, get_or_append_left, get_or-append_right, get_or-replicate, length-take, length-replicate, length-append}
use Rattle.std.specs.List.{list_any}
use Rattle.ctr_csrs.specs.declared.depth.Depth.{Depth}
use Rattle.ctr_csrs.specs.declared.depth.Depth.TheVariants.{D16}
use Rattle.ctr_csrs.specs.Depths.{entries_of}
use Rattle.ctr_csrs.specs.RegisterLaws.{least_entries}
use Rattle.ctr_buffer.specs.declared.event.Event.{Event}
use Rattle.ctr_buffer.specs.declared.event.Event.TheVariants.{Push, Swap, Pop, Clear, SetDepth, Turn, Poke}
use Rattle.ctr_buffer.specs.Entry.{Entry, is_valid, unlinked, valid_entries, zero_entry}
use Rattle.ctr_buffer.specs.History.{CanTake, after, stack_of, deep_from, deep_of}
use Rattle.ctr_buffer.specs.HistoryLaws.{stays, empty_is}
use Rattle.ctr_buffer.specs.Stack.{Stack, IsStack, size_of, empty, after_push, after_pop, after_swap, after_clear, first_last}
use Rattle.ctr_buffer.specs.Visible.{HeldIsVisible, HaveTransfers, HasTransfer, IsItem, IsUnwritten, TakenHaveTransfers, ValidAreVisible, empties, is_write, since_emptied}
use Rattle.ctr_buffer.proofs.Kept.{Keep, VisibleIn, from_visible_in, to_visible_in}

-- an event that records a transfer, or a return
abbrev pub IsOfTransfer : Event → Type 0
IsOfTransfer (Push e) = is_valid e ≡ true
IsOfTransfer (Swap e) = is_valid e ≡ true
IsOfTransfer Pop = Unit {0}
IsOfTransfer _ = ⊥

abbrev pub AreOfTransfers : List Event → Type 0
AreOfTransfers [] = Unit {0}
AreOfTransfers (e ∷ later) = IsOfTransfer e × AreOfTransfers later

-- item k has V and is r
abbrev pub HasAt : List Entry → ℕ → Entry → Type 0
HasAt xs k r = (get_or xs k zero_entry ≡ r) × (is_valid r ≡ true)

pub inside : (xs : List Entry) (k : ℕ) (r : Entry) → HasAt xs k r → k < length xs
inside xs k r h = elim (cases_lt k (length xs)) [
  | inl p ↦ p
  | inr p ↦
      let e : zero_entry ≡ r = sym (get_or-eq_default xs zero_entry p) ∙ h.0 in
      absurd (cc (ap (λ (x : Entry). is_valid x) e ∙ h.1))
]

pub unlinked_has_none : (e : Entry) → is_valid (unlinked e) ≡ true → ⊥
unlinked_has_none e v =
    let even : e.source / 2 * 2 % 2 ≡ 0 = omega arith in
    cc (sym (ap (λ (n : ℕ). nat_eq n 1) even) ∙ v)

abbrev pub From : ℕ → List Entry → List Event → ℕ → Entry → Type 0
From size xs events k r =
    ((i : ℕ) × HasAt xs i r × Keep size i events k) ⊎ VisibleIn size events k r

pub push_from : (size : ℕ) (xs : List Entry) (e : Entry) (later : List Event) (k : ℕ) (r : Entry)
    → length xs ≡ size
    → From size (e ∷ take (size - 1) xs) later k r → From size xs (Push e ∷ later) k r
push_from size xs e later k r full (inl (zero, h, s)) = inr (inl (h.0, s))
push_from size xs e later k r full (inl (suc j, h, s)) =
    let p : j < length (take (size - 1) xs) = inside (take (size - 1) xs) j r h in
    let q : j < size - 1 = omega (arith, p, length-take (size - 1) xs) in
    inl (j, (sym (get_or-take (size - 1) xs j zero_entry q) ∙ h.0, h.1), (omega (arith, q), s))
push_from size xs e later k r full (inr v) = inr (inr v)

pub push_to : (size : ℕ) (xs : List Entry) (e : Entry) (later : List Event) (k : ℕ) (r : Entry)
    → is_valid e ≡ true
    → From size xs (Push e ∷ later) k r → From size (e ∷ take (size - 1) xs) later k r
push_to size xs e later k r valid (inl (i, h, s)) =
    inl (suc i, (get_or-take (size - 1) xs i zero_entry (omega (arith, s.0)) ∙ h.0, h.1), s.1)
push_to size xs e later k r valid (inr (inl (is, s))) =
    inl (zero, (is, sym (ap (λ (x : Entry). is_valid x) is) ∙ valid), s)
push_to size xs e later k r valid (inr (inr v)) = inr v

pub pop_from : (size : ℕ) (xs : List Entry) (later : List Event) (k : ℕ) (r : Entry)
    → From size (first_last xs) later k r → From size xs (Pop ∷ later) k r
pop_from size xs later k r (inr v) = inr (inr v)
pop_from size [] later k r (inl (i, h, s)) = absurd (omega (arith, inside [] i r h))
pop_from size (e ∷ older) later k r (inl (i, h, s)) = elim (cases_lt i (length older)) [
  | inl p ↦ inl (
    suc i,
    (
      sym (get_or_append_left older (unlinked e ∷ []) zero_entry i p) ∙ h.0,
      h.1,
    ),
    s,
  )
  | inr p ↦
      let within : i < length (older ++ unlinked e ∷ []) =
      inside (older ++ unlinked e ∷ []) i r h in
      let none : i - length older ≡ 0 =
      omega (arith, within, length-append older (unlinked e ∷ [])) in
      let last : unlinked e ≡ r =
      sym (get_or-append_right older (unlinked e ∷ []) (length older) i zero_entry refl p ∙ ap
      (λ (j : ℕ). get_or (unlinked e ∷ []) j zero_entry) none) ∙ h.0 in
      absurd (unlinked_has_none e (ap (λ (x : Entry). is_valid x) last ∙ h.1))
]

pub pop_to : (size : ℕ) (xs : List Entry) (later : List Event) (k : ℕ) (r : Entry)
    → From size xs (Pop ∷ later) k r → From size (first_last xs) later k r
pop_to size xs later k r (inr (inl x)) = absurd x.0
pop_to size xs later k r (inr (inr v)) = inr v
pop_to size [] later k r (inl (i, h, s)) = absurd (omega (arith, inside [] i r h))
pop_to size (e ∷ older) later k r (inl (zero, h, s)) = absurd s
pop_to size (e ∷ older) later k r (inl (suc i, h, s)) =
    inl (
      i,
      (
        get_or_append_left older (unlinked e ∷ []) zero_entry i (inside older i r h) ∙ h.0,
        h.1,
      ),
      s,
    )

pub swap_from : (size : ℕ) (xs : List Entry) (e : Entry) (later : List Event) (k : ℕ) (r : Entry)
    → From size (slice_set xs 0 e) later k r → From size xs (Swap e ∷ later) k r
swap_from size xs e later k r (inr v) = inr (inr v)
swap_from size [] e later k r (inl (i, h, s)) = absurd (omega (arith, inside [] i r h))
swap_from size (x ∷ older) e later k r (inl (zero, h, s)) = inr (inl (h.0, s))
swap_from size (x ∷ older) e later k r (inl (suc i, h, s)) = inl (suc i, h, s)

pub swap_to : (size : ℕ) (xs : List Entry) (e : Entry) (later : List Event) (k : ℕ) (r : Entry)
    → is_valid e ≡ true → 0 < length xs
    → From size xs (Swap e ∷ later) k r → From size (slice_set xs 0 e) later k r
swap_to size xs e later k r valid some (inr (inr v)) = inr v
swap_to size [] e later k r valid some f = absurd (omega (arith, some))
swap_to size (x ∷ older) e later k r valid some (inr (inl (is, s))) =
    inl (zero, (is, sym (ap (λ (y : Entry). is_valid y) is) ∙ valid), s)
swap_to size (x ∷ older) e later k r valid some (inl (zero, h, s)) = absurd s
swap_to size (x ∷ older) e later k r valid some (inl (suc i, h, s)) = inl (suc i, h, s)

pub from_all : (s : Stack) (events : List Event) (k : ℕ) (r : Entry) → IsStack s
    → AreOfTransfers events
    → HasAt (fold after s events).slots k r → From (size_of s) s.slots events k r
from_all s [] k r is of h = inl (k, h, refl)
from_all s (Push e ∷ later) k r is of h =
    push_from (size_of s) s.slots e later k r is.full
    (from_all (after_push s e) later k r (stays s (Push e) is) of.1 h)
from_all s (Pop ∷ later) k r is of h =
    pop_from (size_of s) s.slots later k r (from_all (after_pop s) later k r (stays s Pop is) of.1 h)
from_all s (Swap e ∷ later) k r is of h =
    swap_from (size_of s) s.slots e later k r
    (from_all (after_swap s e) later k r (stays s (Swap e) is) of.1 h)
from_all s (Clear ∷ later) k r is of h = absurd of.0
from_all s (SetDepth d ∷ later) k r is of h = absurd of.0
from_all s (Turn w ∷ later) k r is of h = absurd of.0
from_all s (Poke i part value ∷ later) k r is of h = absurd of.0

pub to_all : (s : Stack) (events : List Event) (k : ℕ) (r : Entry) → IsStack s
    → AreOfTransfers events
    → From (size_of s) s.slots events k r → HasAt (fold after s events).slots k r
to_all s [] k r is of (inl (i, h, e)) =
    (ap (λ (n : ℕ). get_or s.slots n zero_entry) (sym e) ∙ h.0, h.1)
to_all s [] k r is of (inr v) = absurd v
to_all s (Push e ∷ later) k r is of f =
    to_all (after_push s e) later k r (stays s (Push e) is) of.1
    (push_to (size_of s) s.slots e later k r of.0 f)
to_all s (Pop ∷ later) k r is of f =
    to_all (after_pop s) later k r (stays s Pop is) of.1 (pop_to (size_of s) s.slots later k r f)
to_all s (Swap e ∷ later) k r is of f =
    to_all (after_swap s e) later k r (stays s (Swap e) is) of.1
    (swap_to (size_of s) s.slots e later k r of.0
    (omega (arith, is.full, least_entries s.depth)) f)
to_all s (Clear ∷ later) k r is of f = absurd of.0
to_all s (SetDepth d ∷ later) k r is of f = absurd of.0
to_all s (Turn w ∷ later) k r is of f = absurd of.0
to_all s (Poke i part value ∷ later) k r is of f = absurd of.0

-- a stack of zero entries, from which the events since the buffer was emptied lead to the same
abbrev pub Emptied : Stack → List Event → Type 0
Emptied s history =
    (z : Stack) × IsStack z × (z.slots ≡ replicate (size_of z) zero_entry) ×
    (z.depth ≡ deep_from s.depth history)
    × (fold after s history ≡ fold after z (since_emptied history))

pub no_depth : (d : Depth) (history : List Event) → list_any empties history ≡ false
    → deep_from d history ≡ d
no_depth d [] none = refl
no_depth d (Push e ∷ later) none = no_depth d later none
no_depth d (Swap e ∷ later) none = no_depth d later none
no_depth d (Pop ∷ later) none = no_depth d later none
no_depth d (Clear ∷ later) none = absurd (cc none)
no_depth d (SetDepth e ∷ later) none = absurd (cc none)
no_depth d (Turn w ∷ later) none = no_depth d later none
no_depth d (Poke i part value ∷ later) none = no_depth d later none

pub emptied : (s : Stack) (history : List Event) → IsStack s → list_any empties history ≡ true
    → Emptied s history
emptied s [] is some = absurd (cc some)
emptied s (Push e ∷ later) is some =
    rw some (emptied (after s (Push e)) later (stays s (Push e) is) some)
emptied s (Swap e ∷ later) is some =
    rw some (emptied (after s (Swap e)) later (stays s (Swap e) is) some)
emptied s (Pop ∷ later) is some = rw some (emptied (after s Pop) later (stays s Pop is) some)
emptied s (Turn w ∷ later) is some =
    rw some (emptied (after s (Turn w)) later (stays s (Turn w) is) some)
emptied s (Poke i part value ∷ later) is some =
    rw some (emptied (after s (Poke i part value)) later (stays s (Poke i part value) is) some)
emptied s (Clear ∷ later) is some = elim (cases_Bool (list_any empties later)) [
  | inl more ↦ rw more (emptied (after s Clear) later (stays s Clear is) more)
  | inr none ↦ rw none (after_clear s, stays s Clear is, refl, sym (no_depth s.depth later none), refl)
]
emptied s (SetDepth d ∷ later) is some = elim (cases_Bool (list_any empties later)) [
  | inl more ↦ rw more (emptied (after s (SetDepth d)) later (stays s (SetDepth d) is) more)
  | inr none ↦ rw none (empty d, empty_is d, refl, sym (no_depth d later none), refl)
]

pub none_emptied : (history : List Event) → list_any empties history ≡ false
    → since_emptied history ≡ history
none_emptied [] none = refl
none_emptied (Push e ∷ later) none = rw none refl
none_emptied (Swap e ∷ later) none = rw none refl
none_emptied (Pop ∷ later) none = rw none refl
none_emptied (Clear ∷ later) none = absurd (cc none)
none_emptied (SetDepth d ∷ later) none = absurd (cc none)
none_emptied (Turn w ∷ later) none = rw none refl
none_emptied (Poke i part value ∷ later) none = rw none refl

pub starts : (history : List Event) → Emptied (empty D16) history
starts history = elim (cases_Bool (list_any empties history)) [
  | inl some ↦ emptied (empty D16) history (empty_is D16) some
  | inr none ↦ (
    empty D16,
    empty_is D16,
    refl,
    sym (no_depth D16 history none),
    ap (λ (es : List Event). fold after (empty D16) es) (sym (none_emptied history none)),
  )
]

pub zero_holds_none : (n i : ℕ) (r : Entry) → HasAt (replicate n zero_entry) i r → ⊥
zero_holds_none n i r h =
    let p : i < n =
    omega (arith, inside (replicate n zero_entry) i r h, length-replicate n zero_entry) in
    let e : zero_entry ≡ r = sym (get_or-replicate n i zero_entry zero_entry p) ∙ h.0 in
    cc (ap (λ (x : Entry). is_valid x) e ∙ h.1)

pub of_zero : (size : ℕ) (xs : List Entry) (n : ℕ) (events : List Event) (k : ℕ) (r : Entry)
    → xs ≡ replicate n zero_entry
    → From size xs events k r → VisibleIn size events k r
of_zero size xs n events k r zeros (inl (i, h, s)) = absurd (zero_holds_none n i r (rw zeros at h))
of_zero size xs n events k r zeros (inr v) = v

-- what is neither written nor empties the buffer is of transfers
pub plain_of : (events : List Event) → HaveTransfers events → list_any empties events ≡ false
    → list_any is_write events ≡ false
    → AreOfTransfers events
plain_of [] holds none unwritten = tt
plain_of (Push e ∷ later) holds none unwritten = (holds.0, plain_of later holds.1 none unwritten)
plain_of (Swap e ∷ later) holds none unwritten = (holds.0, plain_of later holds.1 none unwritten)
plain_of (Pop ∷ later) holds none unwritten = (tt, plain_of later holds.1 none unwritten)
plain_of (Clear ∷ later) holds none unwritten = absurd (cc none)
plain_of (SetDepth d ∷ later) holds none unwritten = absurd (cc none)
plain_of (Turn w ∷ later) holds none unwritten = absurd (cc unwritten)
plain_of (Poke i part value ∷ later) holds none unwritten = absurd (cc unwritten)

pub first_of : (e : Event) (later : List Event) → HaveTransfers (e ∷ later)
    → list_any empties later ≡ false
    → list_any is_write (cond (empties e) later (e ∷ later)) ≡ false
    → AreOfTransfers (cond (empties e) later (e ∷ later))
first_of (Push e) later holds none unwritten = (holds.0, plain_of later holds.1 none unwritten)
first_of (Swap e) later holds none unwritten = (holds.0, plain_of later holds.1 none unwritten)
first_of Pop later holds none unwritten = (tt, plain_of later holds.1 none unwritten)
first_of Clear later holds none unwritten = plain_of later holds.1 none unwritten
first_of (SetDepth d) later holds none unwritten = plain_of later holds.1 none unwritten
first_of (Turn w) later holds none unwritten = absurd (cc unwritten)
first_of (Poke i part value) later holds none unwritten = absurd (cc unwritten)

pub of_transfers : (history : List Event) → HaveTransfers history → IsUnwritten history
    → AreOfTransfers (since_emptied history)
of_transfers [] holds unwritten = tt
of_transfers (e ∷ later) holds unwritten = elim (cases_Bool (list_any empties later)) [
  | inl more ↦ rw more (of_transfers later holds.1 (rw more at unwritten))
  | inr none ↦ rw none (first_of e later holds none (rw none at unwritten))
]

pub held_is_visible : HeldIsVisible
held_is_visible history k r holds unwritten =
    let start = starts history in
    let z = start.0 in
    let events = since_emptied history in
    let of = of_transfers history holds unwritten in
    let size : size_of z ≡ entries_of (deep_of history) =
    ap (λ (d : Depth). entries_of d) start.3 in
    let some : 0 < entries_of (deep_of history) = omega (arith, least_entries (deep_of history)) in
    let slots : (stack_of history).slots ≡ (fold after z events).slots =
    ap (λ (s : Stack). s.slots) start.4 in (
      (λ h.
          let here : HasAt (fold after z events).slots k r =
          (sym (ap (λ (xs : List Entry). get_or xs k zero_entry) slots) ∙ h.0, h.1) in
          let v : VisibleIn (size_of z) events k r =
          of_zero (size_of z) z.slots (size_of z) events k r start.2
          (from_all z events k r start.1 of here) in
          from_visible_in (entries_of (deep_of history)) events k r some (rw (sym size) v)),
      (λ v.
          let is : VisibleIn (entries_of (deep_of history)) events k r =
          to_visible_in (entries_of (deep_of history)) events k r v.0 v.1 in
          let f : VisibleIn (size_of z) events k r = rw size is in
          let here : HasAt (fold after z events).slots k r =
          to_all z events k r start.1 of (inr f) in
          (ap (λ (xs : List Entry). get_or xs k zero_entry) slots ∙ here.0, here.1)),
    )

-- no entry with V lies behind one without it
abbrev pub HasNoGaps : List Entry → Type 0
HasNoGaps xs =
    (k : ℕ) → is_valid (get_or xs (suc k) zero_entry) ≡ true
    → is_valid (get_or xs k zero_entry) ≡ true

pub valid_inside : (xs : List Entry) (k : ℕ) → is_valid (get_or xs k zero_entry) ≡ true
    → k < length xs
valid_inside xs k v = inside xs k (get_or xs k zero_entry) (refl, v)

pub same_valid : (a b : Entry) → a ≡ b → is_valid a ≡ true → is_valid b ≡ true
same_valid a b is v = sym (ap (λ (x : Entry). is_valid x) is) ∙ v

pub zeros_no_gaps : (n : ℕ) → HasNoGaps (replicate n zero_entry)
zeros_no_gaps n k v =
    absurd (zero_holds_none n (suc k) (get_or (replicate n zero_entry) (suc k) zero_entry)
    (refl, v))

pub pushed_no_gaps : (n : ℕ) (xs : List Entry) (e : Entry) → is_valid e ≡ true → HasNoGaps xs
    → HasNoGaps (e ∷ take n xs)
pushed_no_gaps n xs e valid h zero v = valid
pushed_no_gaps n xs e valid h (suc k) v =
    let p : suc k < length (take n xs) = valid_inside (take n xs) (suc k) v in
    let q : suc k < n = omega (arith, p, length-take n xs) in
    let there =
    same_valid (get_or (take n xs) (suc k) zero_entry) (get_or xs (suc k) zero_entry)
    (get_or-take n xs (suc k) zero_entry q) v in
    same_valid (get_or xs k zero_entry) (get_or (take n xs) k zero_entry)
    (sym (get_or-take n xs k zero_entry (omega (arith, q)))) (h k there)

pub swapped_no_gaps : (xs : List Entry) (e : Entry) → is_valid e ≡ true → HasNoGaps xs
    → HasNoGaps (slice_set xs 0 e)
swapped_no_gaps [] e valid h k v = absurd (omega (arith, valid_inside [] (suc k) v))
swapped_no_gaps (x ∷ older) e valid h zero v = valid
swapped_no_gaps (x ∷ older) e valid h (suc k) v = h (suc k) v

pub popped_no_gaps : (xs : List Entry) → HasNoGaps xs → HasNoGaps (first_last xs)
popped_no_gaps [] h k v = absurd (omega (arith, valid_inside [] (suc k) v))
popped_no_gaps (e ∷ older) h k v = elim (cases_lt (suc k) (length older)) [
  | inl p ↦
      let q : k < length older = omega (arith, p) in
      let whole = older ++ unlinked e ∷ [] in
      let there =
      same_valid (get_or whole (suc k) zero_entry) (get_or older (suc k) zero_entry)
      (get_or_append_left older (unlinked e ∷ []) zero_entry (suc k) p) v in
      same_valid (get_or older k zero_entry) (get_or whole k zero_entry)
      (sym (get_or_append_left older (unlinked e ∷ []) zero_entry k q)) (h (suc k) there)
  | inr p ↦
      let whole = older ++ unlinked e ∷ [] in
      let within : suc k < length whole = valid_inside whole (suc k) v in
      let none : suc k - length older ≡ 0 =
      omega (arith, within, length-append older (unlinked e ∷ [])) in
      let last : get_or whole (suc k) zero_entry ≡ unlinked e =
      get_or-append_right older (unlinked e ∷ []) (length older) (suc k) zero_entry refl p
      ∙ ap (λ (j : ℕ). get_or (unlinked e ∷ []) j zero_entry) none in
      absurd (unlinked_has_none e (same_valid (get_or whole (suc k) zero_entry) (unlinked e) last
      v))
]

pub no_gaps : (s : Stack) (events : List Event) → AreOfTransfers events → HasNoGaps s.slots
    → HasNoGaps (fold after s events).slots
no_gaps s [] of h = h
no_gaps s (Push e ∷ later) of h =
    no_gaps (after_push s e) later of.1 (pushed_no_gaps (size_of s - 1) s.slots e of.0 h)
no_gaps s (Pop ∷ later) of h = no_gaps (after_pop s) later of.1 (popped_no_gaps s.slots h)
no_gaps s (Swap e ∷ later) of h =
    no_gaps (after_swap s e) later of.1 (swapped_no_gaps s.slots e of.0 h)
no_gaps s (Clear ∷ later) of h = absurd of.0
no_gaps s (SetDepth d ∷ later) of h = absurd of.0
no_gaps s (Turn w ∷ later) of h = absurd of.0
no_gaps s (Poke i part value ∷ later) of h = absurd of.0

pub zero_slots_no_gaps : (xs : List Entry) (n : ℕ) → xs ≡ replicate n zero_entry → HasNoGaps xs
zero_slots_no_gaps xs n is = rw is (zeros_no_gaps n)

pub tail_no_gaps : (x : Entry) (xs : List Entry) → HasNoGaps (x ∷ xs) → HasNoGaps xs
tail_no_gaps x xs h k v = h (suc k) v

pub first_valid : (xs : List Entry) (k : ℕ) → HasNoGaps xs
    → is_valid (get_or xs k zero_entry) ≡ true
    → is_valid (get_or xs 0 zero_entry) ≡ true
first_valid xs zero h v = v
first_valid xs (suc k) h v = first_valid xs k h (h k v)

-- so the entries with V, in order, lie where they lay
pub item_step : (b : Bool) (x : Entry) (xs : List Entry) (k : ℕ) (r : Entry) → is_valid x ≡ b
    → HasNoGaps (x ∷ xs)
    → ((j : ℕ) → IsItem (valid_entries xs) j r → HasAt xs j r)
    → IsItem (cond b (x ∷ valid_entries xs) (valid_entries xs)) k r
    → HasAt (x ∷ xs) k r
item_step true x xs zero r valid h rest is =
    (is.1, sym (ap (λ (y : Entry). is_valid y) is.1) ∙ valid)
item_step true x xs (suc j) r valid h rest is = rest j (omega (arith, is.0), is.1)
item_step false x xs k r invalid h rest is =
    let there = rest k is in
    let v =
    first_valid (x ∷ xs) (suc k) h (same_valid r (get_or xs k zero_entry) (sym there.0) there.1)
    in
    absurd (cc (sym v ∙ invalid))

pub item_held : (xs : List Entry) (k : ℕ) (r : Entry) → HasNoGaps xs → IsItem (valid_entries xs) k r
    → HasAt xs k r
item_held [] k r h is = absurd (omega (arith, is.0))
item_held (x ∷ xs) k r h is =
    item_step (is_valid x) x xs k r refl h (λ j i. item_held xs j r (tail_no_gaps x xs h) i) is

pub held_step : (b : Bool) (x : Entry) (xs : List Entry) (k : ℕ) (r : Entry) → is_valid x ≡ b
    → HasNoGaps (x ∷ xs)
    → ((j : ℕ) → HasAt xs j r → IsItem (valid_entries xs) j r) → HasAt (x ∷ xs) k r
    → IsItem (cond b (x ∷ valid_entries xs) (valid_entries xs)) k r
held_step true x xs zero r valid h rest is = (omega arith, is.0)
held_step true x xs (suc j) r valid h rest is =
    let there = rest j is in
    (omega (arith, there.0), there.1)
held_step false x xs k r invalid h rest is =
    let v =
    first_valid (x ∷ xs) k h (same_valid r (get_or (x ∷ xs) k zero_entry) (sym is.0) is.1) in
    absurd (cc (sym v ∙ invalid))

pub held_item : (xs : List Entry) (k : ℕ) (r : Entry) → HasNoGaps xs → HasAt xs k r
    → IsItem (valid_entries xs) k r
held_item [] k r h is = absurd (omega (arith, inside [] k r is))
held_item (x ∷ xs) k r h is =
    held_step (is_valid x) x xs k r refl h (λ j i. held_item xs j r (tail_no_gaps x xs h) i) is

pub stack_no_gaps : (history : List Event) → HaveTransfers history → IsUnwritten history
    → HasNoGaps (stack_of history).slots
stack_no_gaps history holds unwritten =
    let start = starts history in
    let z = start.0 in
    let events = since_emptied history in
    let there =
    no_gaps z events (of_transfers history holds unwritten)
    (zero_slots_no_gaps z.slots (size_of z) start.2) in
    rw (ap (λ (s : Stack). s.slots) start.4) there

pub valid_are_visible : ValidAreVisible
valid_are_visible history holds unwritten k r =
    let both = held_is_visible history k r holds unwritten in
    let slots = (stack_of history).slots in
    let dense = stack_no_gaps history holds unwritten in
    ((λ is. both.0 (item_held slots k r dense is)), (λ v. held_item slots k r dense (both.1 v)))

pub taken_one : (s : Stack) (e : Event) → CanTake s e → HasTransfer e
taken_one s (Push e) h = h
taken_one s (Swap e) h = h
taken_one s Pop h = tt
taken_one s Clear h = tt
taken_one s (SetDepth d) h = tt
taken_one s (Turn w) h = tt
taken_one s (Poke i part value) h = tt

pub taken_have_transfers : TakenHaveTransfers
taken_have_transfers s [] can = tt
taken_have_transfers s (e ∷ later) can =
    (taken_one s e can.0, taken_have_transfers (after s e) later can.1)
