-- How the entries of a ring move with its pointer.
use Rattle.std.proofs.Common.{◌≡◌, ◌≢◌, ℕ, ◌+◌, ◌-◌, ◌%◌, ◌<◌, ◌≤◌, ◌⊎◌, inl, inr, List, [], ◌∷◌, ◌++◌, length, take, drop, get_or, slice_get, slice_set, replicate, Some, refl, sym, ◌∙◌, ap, arith, zero, zero-add, suc, length-append, length-drop, add_comm}
use Rattle.std.proofs.Math.Nat.{mod-eq_of_lt, mod-eq-sub-mod, add-mod_right}
use Rattle.std.proofs.lemmas.Bool.{cases_lt, cases_eq}
use Rattle.std.proofs.lemmas.List.{get_or-take, get_or_append_left, get_or-append_right, get_or-replicate, get_or-set_other, get_or_default, length-set, length-replicate, length-take, drop-replicate, ext_get_or}
use Rattle.std.proofs.lemmas.List.FromFn.{length-map-range_with_len, get_or-map-range_with_len}
use Rattle.std.proofs.lemmas.Grind.{get_or-set_at, get_or_after_one}
use Rattle.std.proofs.lemmas.Nat.{mod_below}
use Rattle.std.proofs.lemmas.Option.{slice_get-get_or}
use Rattle.ctr_csrs.specs.declared.depth.Depth.{Depth}
use Rattle.ctr_csrs.specs.Depths.{entries_of}
use Rattle.ctr_csrs.specs.RegisterLaws.{most_entries}
use Rattle.ctr_buffer.specs.Entry.{Entry, zero_entry, unlinked}
use Rattle.ctr_buffer.specs.Ring.{IsRing, place_of, ring_slots, ring_stack}
use Rattle.ctr_buffer.specs.Stack.{first_last, after_push, after_pop, after_poke, after_turn, turned_slots}
use Rattle.ctr_buffer.proofs.Moves.{stack, same_slots, mod_once}

-- numbers that are equal or one modulus apart
pub same_mod : (d a b : ℕ) → (a ≡ b) ⊎ ((a ≡ b + d) ⊎ (b ≡ a + d)) → a % d ≡ b % d
same_mod d a b (inl same) = ap (λ (n : ℕ). n % d) same
same_mod d a b (inr (inl over)) = ap (λ (n : ℕ). n % d) over ∙ add-mod_right b d
same_mod d a b (inr (inr under)) = sym (ap (λ (n : ℕ). n % d) under ∙ add-mod_right a d)

-- where entry i lies, without a remainder
pub place_low : (d p i : ℕ) → p < d → i < p → place_of d p i ≡ p - 1 - i
place_low d p i within low =
    let over : p + d - 1 - i ≡ p - 1 - i + d = omega arith in
    same_mod d (p + d - 1 - i) (p - 1 - i) (inr (inl over)) ∙ mod-eq_of_lt (omega arith)

pub place_high : (d p i : ℕ) → p < d → p ≤ i → place_of d p i ≡ p + d - 1 - i
place_high d p i within high = mod-eq_of_lt (omega arith)

pub place_within : (d p i : ℕ) → p < d → place_of d p i < d
place_within d p i within = mod_below (p + d - 1 - i) d (omega arith)

-- no two entries lie in one place
pub same_place : (d p i j : ℕ) → p < d → i < d → j < d → place_of d p i ≡ place_of d p j → i ≡ j
same_place d p i j within i_in j_in same =
    elim (cases_lt i p) [
      | inl a ↦ elim (cases_lt j p) [
        | inl b ↦ omega (arith, a, b, i_in, j_in, within, sym (place_low d p i within a) ∙ same ∙ place_low d p j within b)
        | inr b ↦ omega (arith, a, b, i_in, j_in, within, sym (place_low d p i within a) ∙ same ∙ place_high d p j within b)
      ]
      | inr a ↦ elim (cases_lt j p) [
        | inl b ↦ omega (arith, a, b, i_in, j_in, within, sym (place_high d p i within a) ∙ same ∙ place_low d p j within b)
        | inr b ↦ omega (arith, a, b, i_in, j_in, within, sym (place_high d p i within a) ∙ same ∙ place_high d p j within b)
      ]
    ]

-- the pointer that follows another
pub next_cases : (d p : ℕ) → p < d → ((p + 1 < d) × ((p + 1) % d ≡ p + 1)) ⊎ ((p + 1 ≡ d) × ((p + 1) % d ≡ 0))
next_cases d p within =
    elim (cases_lt (p + 1) d) [
      | inl more ↦ inl (more, mod-eq_of_lt more)
      | inr none ↦
          let all : p + 1 ≡ d = omega arith in
          let over : p + 1 ≡ 0 + d = omega arith in
          inr (all, same_mod d (p + 1) 0 (inr (inl over)) ∙ mod-eq_of_lt (omega arith))
    ]

-- q follows p
abbrev pub Follows : ℕ → ℕ → ℕ → Type 0
Follows d p q = ((p + 1 < d) × (q ≡ p + 1)) ⊎ ((p + 1 ≡ d) × (q ≡ 0))

pub first_place : (d p q : ℕ) → p < d → Follows d p q → place_of d q 0 ≡ p
first_place d p q within (inl next) =
    let over : q + d - 1 - 0 ≡ p + d = omega (arith, next.1) in
    same_mod d (q + d - 1 - 0) p (inr (inl over)) ∙ mod-eq_of_lt within
first_place d p q within (inr next) =
    let same : q + d - 1 - 0 ≡ p = omega (arith, next.0, next.1) in
    same_mod d (q + d - 1 - 0) p (inl same) ∙ mod-eq_of_lt within

pub later_place : (d p q j k : ℕ) → p < d → j < d → j ≡ k + 1 → Follows d p q → place_of d q j ≡ place_of d p k
later_place d p q j k within more after (inl next) =
    let same : q + d - 1 - j ≡ p + d - 1 - k = omega (arith, after, next.1) in
    same_mod d (q + d - 1 - j) (p + d - 1 - k) (inl same)
later_place d p q j k within more after (inr next) =
    let under : p + d - 1 - k ≡ q + d - 1 - j + d = omega (arith, after, next.0, next.1) in
    same_mod d (q + d - 1 - j) (p + d - 1 - k) (inr (inr under))

-- a pointer follows the place of its youngest entry
pub follows_first : (d p : ℕ) → p < d → Follows d (place_of d p 0) p
follows_first d p within =
    elim (cases_lt 0 p) [
      | inl some ↦
          let e : place_of d p 0 ≡ p - 1 - 0 = place_low d p 0 within some in
          inl (omega (arith, e), omega (arith, e))
      | inr none ↦
          let e : place_of d p 0 ≡ p + d - 1 - 0 = place_high d p 0 within none in
          inr (omega (arith, e), omega (arith, none))
    ]

-- the oldest entry lies at the pointer
pub last_place : (d p : ℕ) → p < d → place_of d p (d - 1) ≡ p
last_place d p within =
    let same : p + d - 1 - (d - 1) ≡ p = omega arith in
    same_mod d (p + d - 1 - (d - 1)) p (inl same) ∙ mod-eq_of_lt within

-- entry i of a ring, and a list with those entries
pub ring_at : (d p i : ℕ) (ring : List Entry) → i < d → get_or (ring_slots d p ring) i zero_entry ≡ get_or ring (place_of d p i) zero_entry
ring_at d p i ring inside = get_or-map-range_with_len (λ (j : ℕ). get_or ring (place_of d p j) zero_entry) 0 d i i zero_entry inside (zero-add i)

pub length-ring : (d p : ℕ) (ring : List Entry) → length (ring_slots d p ring) ≡ d
length-ring d p ring = length-map-range_with_len (λ (j : ℕ). get_or ring (place_of d p j) zero_entry) 0 d

pub ring_is : (d p : ℕ) (ring xs : List Entry) → length xs ≡ d
    → ((i : ℕ) → i < d → get_or ring (place_of d p i) zero_entry ≡ get_or xs i zero_entry) → ring_slots d p ring ≡ xs
ring_is d p ring xs full same =
    ext_get_or zero_entry (ring_slots d p ring) xs (length-ring d p ring ∙ sym full)
    (λ i inside.
    let here : i < d = omega (arith, inside, length-ring d p ring) in
    ring_at d p i ring here ∙ same i here)

-- a write at the pointer, and the pointer that follows
pub push_at : (d p q : ℕ) (ring : List Entry) (e : Entry) → p < d → d ≤ length ring → Follows d p q
    → (i : ℕ) → i < d → get_or (slice_set ring p e) (place_of d q i) zero_entry ≡ get_or (e ∷ take (d - 1) (ring_slots d p ring)) i zero_entry
push_at d p q ring e within room next zero inside = get_or-set_at ring p (place_of d q 0) e zero_entry (first_place d p q within next) (omega arith)
push_at d p q ring e within room next (suc k) inside =
    let later : place_of d q (suc k) ≡ place_of d p k = later_place d p q (suc k) k within inside (omega arith) next in
    let apart : place_of d p k ≢ p = λ same.
    absurd (omega (arith, inside, same_place d p k (d - 1) within (omega (arith, inside)) (omega arith) (same ∙ sym (last_place d p within)))) in
    rw later (get_or-set_other ring p (place_of d p k) e zero_entry apart
    ∙ sym (ring_at d p k ring (omega (arith, inside)))
    ∙ sym (get_or-take (d - 1) (ring_slots d p ring) k zero_entry (omega (arith, inside))))

pub push_slots : (d p q : ℕ) (ring : List Entry) (e : Entry) → p < d → d ≤ length ring → Follows d p q
    → ring_slots d q (slice_set ring p e) ≡ e ∷ take (d - 1) (ring_slots d p ring)
push_slots d p q ring e within room next =
    ring_is d q (slice_set ring p e) (e ∷ take (d - 1) (ring_slots d p ring))
    (omega (arith, length-take (d - 1) (ring_slots d p ring), length-ring d p ring))
    (push_at d p q ring e within room next)

-- a step back, and V cleared there
pub first_last_list : (xs : List Entry) → 0 < length xs → first_last xs ≡ drop 1 xs ++ unlinked (get_or xs 0 zero_entry) ∷ []
first_last_list [] some = absurd (omega (arith, some))
first_last_list (e ∷ older) some = refl

pub pop_slots : (d p : ℕ) (ring : List Entry) → p < d → d ≤ length ring
    → ring_slots d (place_of d p 0) (slice_set ring (place_of d p 0) (unlinked (get_or ring (place_of d p 0) zero_entry))) ≡ first_last (ring_slots d p ring)
pop_slots d p ring within room =
    let q = place_of d p 0 in
    let xs = ring_slots d p ring in
    let first = get_or ring q zero_entry in
    let count : length xs ≡ d = length-ring d p ring in
    let q_in : q < d = place_within d p 0 within in
    let same_first : get_or xs 0 zero_entry ≡ first = ring_at d p 0 ring (omega arith) in
    let list : first_last xs ≡ drop 1 xs ++ unlinked first ∷ [] =
    first_last_list xs (omega (arith, count)) ∙ ap (λ (e : Entry). drop 1 xs ++ unlinked e ∷ []) same_first in
    let front : length (drop 1 xs) ≡ d - 1 = omega (arith, length-drop 1 xs, count) in
    let full : length (drop 1 xs ++ unlinked first ∷ []) ≡ d = omega (arith, length-append (drop 1 xs) (unlinked first ∷ []), front) in
    ring_is d q (slice_set ring q (unlinked first)) (drop 1 xs ++ unlinked first ∷ []) full
    (λ i inside. elim (cases_lt i (d - 1)) [
      | inl before ↦
          let more : i + 1 < d = omega arith in
          let back : place_of d p (i + 1) ≡ place_of d q i = later_place d q p (i + 1) i q_in more refl (follows_first d p within) in
          let apart : place_of d q i ≢ q = λ same.
          absurd (omega (arith, same_place d q i (d - 1) q_in inside (omega arith) (same ∙ sym (last_place d q q_in)))) in
          get_or-set_other ring q (place_of d q i) (unlinked first) zero_entry apart
          ∙ ap (λ (j : ℕ). get_or ring j zero_entry) (sym back)
          ∙ sym (ring_at d p (i + 1) ring more)
          ∙ sym (get_or_after_one xs i zero_entry ∙ ap (λ (j : ℕ). get_or xs j zero_entry) (add_comm 1 i))
          ∙ sym (get_or_append_left (drop 1 xs) (unlinked first ∷ []) zero_entry i (omega (arith, front)))
      | inr later ↦
          let last : i ≡ d - 1 = omega arith in
          let none : i - (d - 1) ≡ 0 = omega arith in
          let here : place_of d q i ≡ q = ap (λ (j : ℕ). place_of d q j) last ∙ last_place d q q_in in
          get_or-set_at ring q (place_of d q i) (unlinked first) zero_entry here (omega arith)
          ∙ sym (get_or-append_right (drop 1 xs) (unlinked first ∷ []) (d - 1) i zero_entry front later
          ∙ ap (λ (j : ℕ). get_or (unlinked first ∷ []) j zero_entry) none)
    ])
    ∙ sym list

-- a write of one entry
pub set_slots : (d p i : ℕ) (ring : List Entry) (e : Entry) → p < d → i < d → d ≤ length ring
    → ring_slots d p (slice_set ring (place_of d p i) e) ≡ slice_set (ring_slots d p ring) i e
set_slots d p i ring e within inside room =
    let xs = ring_slots d p ring in
    let at = place_of d p i in
    let at_in : at < d = place_within d p i within in
    let count : length xs ≡ d = length-ring d p ring in
    ring_is d p (slice_set ring at e) (slice_set xs i e) (length-set xs i e ∙ count)
    (λ j j_in. elim (cases_eq j i) [
      | inl same ↦
          get_or-set_at ring at (place_of d p j) e zero_entry (ap (λ (k : ℕ). place_of d p k) same) (omega arith)
          ∙ sym (get_or-set_at xs i j e zero_entry same (omega (arith, count)))
      | inr other ↦
          get_or-set_other ring at (place_of d p j) e zero_entry (λ same. other (same_place d p j i within j_in inside same))
          ∙ sym (ring_at d p j ring j_in)
          ∙ sym (get_or-set_other xs i j e zero_entry other)
    ])

-- entry i seen from a pointer at w is one that is seen from a pointer at p
pub turned_place : (d p w i : ℕ) → p < d → w < d → i < d → place_of d p ((p + d - w + i) % d) ≡ place_of d w i
turned_place d p w i p_in w_in i_in =
    let a = p + d - w + i in
    elim (cases_lt a d) [
      | inl low ↦
          let e : a % d ≡ a = mod-eq_of_lt low in
          let under : w + d - 1 - i ≡ p + d - 1 - a + d = omega arith in
          rw e (same_mod d (p + d - 1 - a) (w + d - 1 - i) (inr (inr under)))
      | inr once ↦ elim (cases_lt a (d + d)) [
        | inl low ↦
            let e : a % d ≡ a - d = mod_once d a once low in
            let same : p + d - 1 - (a - d) ≡ w + d - 1 - i = omega arith in
            rw e (same_mod d (p + d - 1 - (a - d)) (w + d - 1 - i) (inl same))
        | inr twice ↦
            let e : a % d ≡ a - d - d = mod-eq-sub-mod once ∙ mod_once d (a - d) (omega arith) (omega arith) in
            let over : p + d - 1 - (a - d - d) ≡ w + d - 1 - i + d = omega arith in
            rw e (same_mod d (p + d - 1 - (a - d - d)) (w + d - 1 - i) (inr (inl over)))
      ]
    ]

-- another pointer, and no entry moved
pub turn_slots : (d p w : ℕ) (ring : List Entry) → p < d → w < d → ring_slots d w ring ≡ turned_slots d p w (ring_slots d p ring)
turn_slots d p w ring p_in w_in =
    let xs = ring_slots d p ring in
    let f = λ (i : ℕ). get_or xs ((p + d - w + i) % d) zero_entry in
    ring_is d w ring (turned_slots d p w xs) (length-map-range_with_len f 0 d)
    (λ i inside.
    let j_in : (p + d - w + i) % d < d = mod_below (p + d - w + i) d (omega arith) in
    ap (λ (k : ℕ). get_or ring k zero_entry) (sym (turned_place d p w i p_in w_in inside))
    ∙ sym (ring_at d p ((p + d - w + i) % d) ring j_in)
    ∙ sym (get_or-map-range_with_len f 0 d i i zero_entry inside (zero-add i)))

-- zero entries, seen from any pointer
pub zero_slots : (d p : ℕ) → p < d → d ≤ 256 → ring_slots d p (replicate 256 zero_entry) ≡ replicate d zero_entry
zero_slots d p within small =
    ring_is d p (replicate 256 zero_entry) (replicate d zero_entry) (length-replicate d zero_entry)
    (λ i inside.
    get_or-replicate 256 (place_of d p i) zero_entry zero_entry (omega (arith, place_within d p i within))
    ∙ sym (get_or-replicate d i zero_entry zero_entry inside))

-- a ring has room for its depth
pub room : (depth : Depth) (ring : List Entry) → length ring ≡ 256 → entries_of depth ≤ length ring
room depth ring full = omega (arith, full, most_entries depth)

-- each call, as the stack that the ring means
pub push_ring : (depth : Depth) (p : ℕ) (ring : List Entry) (e : Entry) → IsRing depth p ring
    → ring_stack depth ((p + 1) % entries_of depth) (slice_set ring p e) ≡ after_push (ring_stack depth p ring) e
push_ring depth p ring e is =
    let size = entries_of depth in
    same_slots depth ((p + 1) % size) _ _ (push_slots size p ((p + 1) % size) ring e is.within (room depth ring is.full) (next_cases size p is.within))

pub pop_ring : (depth : Depth) (p : ℕ) (ring : List Entry) (other : Entry) → IsRing depth p ring
    → ring_stack depth (place_of (entries_of depth) p 0) (slice_set ring (place_of (entries_of depth) p 0) (unlinked (get_or ring (place_of (entries_of depth) p 0) other)))
    ≡ after_pop (ring_stack depth p ring)
pop_ring depth p ring other is =
    let size = entries_of depth in
    let at = place_of size p 0 in
    let there : at < length ring = omega (arith, place_within size p 0 is.within, room depth ring is.full) in
    let first : get_or ring at other ≡ get_or ring at zero_entry = get_or_default ring at other zero_entry there in
    let back : p + size - 1 - 0 ≡ p + size - 1 = omega arith in
    ap (λ (e : Entry). ring_stack depth at (slice_set ring at (unlinked e))) first
    ∙ same_slots depth at _ _ (pop_slots size p ring is.within (room depth ring is.full))
    ∙ ap (λ (n : ℕ). stack depth (first_last (ring_slots size p ring)) (n % size)) back

pub set_ring : (depth : Depth) (p i : ℕ) (ring : List Entry) (e : Entry) → IsRing depth p ring → i < entries_of depth
    → ring_stack depth p (slice_set ring (place_of (entries_of depth) p i) e) ≡ after_poke (ring_stack depth p ring) i e
set_ring depth p i ring e is inside = same_slots depth p _ _ (set_slots (entries_of depth) p i ring e is.within inside (room depth ring is.full))

pub turn_ring : (depth : Depth) (p w : ℕ) (ring : List Entry) → IsRing depth p ring → w < entries_of depth
    → ring_stack depth w ring ≡ after_turn (ring_stack depth p ring) w
turn_ring depth p w ring is w_in =
    let few : w % entries_of depth ≡ w = mod-eq_of_lt w_in in
    rw few (same_slots depth w _ _ (turn_slots (entries_of depth) p w ring is.within w_in))

pub slot_ring : (depth : Depth) (p i : ℕ) (ring : List Entry) (e : Entry) → IsRing depth p ring → i < entries_of depth
    → slice_get (ring_stack depth p ring).slots i ≡ Some (get_or ring (place_of (entries_of depth) p i) e)
slot_ring depth p i ring e is inside =
    let size = entries_of depth in
    let there : place_of size p i < length ring = omega (arith, place_within size p i is.within, room depth ring is.full) in
    slice_get-get_or (ring_slots size p ring) i zero_entry (omega (arith, length-ring size p ring))
    ∙ ap (λ (x : Entry). Some x) (ring_at size p i ring inside ∙ get_or_default ring (place_of size p i) zero_entry e there)

pub zeros_ring : (depth : Depth) (p : ℕ) → p < entries_of depth → ring_stack depth p (replicate 256 zero_entry) ≡ stack depth (replicate (entries_of depth) zero_entry) p
zeros_ring depth p within = same_slots depth p _ _ (zero_slots (entries_of depth) p within (most_entries depth))

-- zero entries are a ring
pub zeros_are : (depth : Depth) (p : ℕ) → p < entries_of depth → IsRing depth p (replicate 256 zero_entry)
zeros_are depth p within = record {
  within = within;
  full = length-replicate 256 zero_entry;
  rest = drop-replicate (entries_of depth) 256 zero_entry;
}
