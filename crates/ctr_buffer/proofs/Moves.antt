-- How rotations of a list move its entries.
use Rattle.std.proofs.Common.{◌≡◌, ℕ, ◌+◌, ◌-◌, ◌%◌, ◌<◌, ◌≤◌, inl, inr, List, [], ◌∷◌, ◌++◌, length, take, drop, get_or, slice_set, refl, sym, ◌∙◌, ap, arith, zero-add, suc, length-append, length-drop, drop-cons}
use Rattle.std.proofs.Math.Nat.{mod-eq_of_lt, mod-eq-sub-mod, mod-add-mod}
use Rattle.std.proofs.lemmas.Bool.{cases_lt}
use Rattle.std.proofs.lemmas.List.{drop_all, get_or-take, get_or-drop, get_or_append_left, get_or-append_right, length-take-le, take_at, ext_get_or}
use Rattle.std.proofs.lemmas.List.FromFn.{length-map-range_with_len, get_or-map-range_with_len}
use Rattle.std.proofs.lemmas.Nat.{mod_below}
use Rattle.ctr_buffer.specs.Entry.{Entry, zero_entry}
use Rattle.ctr_buffer.specs.Stack.{Stack, turned_slots, after_turn}
use Rattle.ctr_csrs.specs.Depths.{entries_of}
use Rattle.ctr_csrs.specs.declared.depth.Depth.{Depth}

abbrev pub stack : Depth → List Entry → ℕ → Stack
stack depth slots pointer = record { depth = depth; slots = slots; pointer = pointer }

-- stacks with the same entries
pub same_slots : (depth : Depth) (pointer : ℕ) (xs ys : List Entry) → xs ≡ ys → stack depth xs pointer ≡ stack depth ys pointer
same_slots depth pointer xs ys e = ap (λ (zs : List Entry). stack depth zs pointer) e

-- a number below twice the modulus
pub mod_once : (d a : ℕ) → d ≤ a → a < d + d → a % d ≡ a - d
mod_once d a low high =
    let rest : a - d < d = omega arith in
    mod-eq-sub-mod low ∙ mod-eq_of_lt rest

-- the last entry first, then replaced
pub put_first_list : (xs ys : List Entry) (e : Entry) → 0 < length xs → ys ≡ drop (length xs - 1) xs ++ take (length xs - 1) xs
    → slice_set ys 0 e ≡ e ∷ take (length xs - 1) xs
put_first_list xs ys e some is =
    let last : drop (length xs - 1) xs ≡ get_or xs (length xs - 1) zero_entry ∷ drop (suc (length xs - 1)) xs =
    drop-cons xs (length xs - 1) zero_entry (omega arith) in
    let none : drop (suc (length xs - 1)) xs ≡ [] = drop_all (suc (length xs - 1)) xs (omega arith) in
    rw is (rw last (rw none refl))

-- entry i of a rotation
pub rotated_at : (k i : ℕ) (xs : List Entry) → k < length xs → i < length xs
    → get_or (drop k xs ++ take k xs) i zero_entry ≡ get_or xs ((k + i) % length xs) zero_entry
rotated_at k i xs within inside =
    let n = length xs in
    elim (cases_lt i (n - k)) [
      | inl before ↦
          let near : i < length (drop k xs) = omega (arith, length-drop k xs) in
          let low : k + i < n = omega arith in
          get_or_append_left (drop k xs) (take k xs) zero_entry i near
          ∙ get_or-drop k xs i zero_entry
          ∙ ap (λ (j : ℕ). get_or xs j zero_entry) (sym (mod-eq_of_lt low))
      | inr later ↦
          let front : i - (n - k) < k = omega arith in
          let e : (k + i) % n ≡ i - (n - k) = omega (arith, mod_once n (k + i) (omega arith) (omega arith)) in
          get_or-append_right (drop k xs) (take k xs) (n - k) i zero_entry (length-drop k xs) later
          ∙ get_or-take k xs (i - (n - k)) zero_entry front
          ∙ ap (λ (j : ℕ). get_or xs j zero_entry) (sym e)
    ]

-- a rotation turns the list
pub turn_list : (old new : ℕ) (xs : List Entry) → old < length xs → new < length xs
    → drop ((old + length xs - new) % length xs) xs ++ take ((old + length xs - new) % length xs) xs ≡ turned_slots (length xs) old new xs
turn_list old new xs old_within new_within =
    let n = length xs in
    let k = (old + n - new) % n in
    let within : k < n = mod_below (old + n - new) n (omega arith) in
    let f = λ (i : ℕ). get_or xs ((old + n - new + i) % n) zero_entry in
    let len : length (drop k xs ++ take k xs) ≡ n =
    omega (arith, length-append (drop k xs) (take k xs), length-drop k xs, length-take-le k xs (omega arith)) in
    ext_get_or zero_entry (drop k xs ++ take k xs) (turned_slots n old new xs)
    (len ∙ sym (length-map-range_with_len f 0 n))
    (λ i inside.
    let here : i < n = omega (arith, inside, len) in
    rotated_at k i xs within here
    ∙ ap (λ (j : ℕ). get_or xs j zero_entry) (mod-add-mod (old + n - new) n i)
    ∙ sym (get_or-map-range_with_len f 0 n i i zero_entry here (zero-add i)))

-- the array after a turn of its first part
pub turn_stack : (depth : Depth) (old new : ℕ) (xs ys : List Entry) → entries_of depth ≤ length xs → new < entries_of depth
    → ys ≡ turned_slots (length (take (entries_of depth) xs)) old new (take (entries_of depth) xs)
    → stack depth (take (entries_of depth) (ys ++ drop (entries_of depth) xs)) new ≡ after_turn (stack depth (take (entries_of depth) xs) old) new
turn_stack depth old new xs ys room within is =
    let size = entries_of depth in
    let front = take size xs in
    let len : length front ≡ size = length-take-le size xs room in
    let there : ys ≡ turned_slots size old new front = is ∙ ap (λ (n : ℕ). turned_slots n old new front) len in
    let count : length ys ≡ size = ap (λ (zs : List Entry). length zs) there
    ∙ length-map-range_with_len (λ i. get_or front ((old + size - new + i) % size) zero_entry) 0 size in
    let few : new % size ≡ new = mod-eq_of_lt within in
    rw few (same_slots depth new _ _ (take_at ys (drop size xs) size count ∙ there))
