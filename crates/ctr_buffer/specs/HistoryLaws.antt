-- What holds of the stack of a history (RISC-V Control Transfer Records 1.0, register sctrstatus).
use Rattle.std.proofs.Common.{◌≡◌, ℕ, ◌+◌, ◌-◌, ◌*◌, ◌%◌, ◌<◌, inl, inr, true, false, cond, List, [], ◌∷◌, length, fold, count_by, refl, sym, ◌∙◌, ap, arith, add_assoc, length-append}
use Rattle.std.proofs.Math.Nat.{mod-eq_of_lt, mod-add-mod, mul-add, mul-one}
use Rattle.std.proofs.lemmas.Bool.{cases_Bool}
use Rattle.std.proofs.lemmas.List.{length-replicate, length-set, length-take}
use Rattle.std.proofs.lemmas.List.FromFn.{length-map-range_with_len}
use Rattle.std.proofs.lemmas.List.Sums.{sum_by-cons}
use Rattle.std.proofs.lemmas.Nat.{mod_below}
use Rattle.std.specs.List.{list_any}
use Rattle.ctr_csrs.specs.declared.depth.Depth.{Depth}
use Rattle.ctr_csrs.specs.Depths.{entries_of}
use Rattle.ctr_csrs.specs.RegisterLaws.{least_entries}
use Rattle.ctr_buffer.specs.declared.event.Event.{Event}
use Rattle.ctr_buffer.specs.declared.event.Event.TheVariants.{Push, Swap, Pop, Clear, SetDepth, Turn, Poke}
use Rattle.ctr_buffer.specs.Entry.{Entry, zero_entry, unlinked, with_part}
use Rattle.ctr_buffer.specs.History.{IsHistory, after, stack_of, deep_from, sets_pointer, place_set, set_from, since, is_push, is_pop, pointer_after, pointer_from}
use Rattle.ctr_buffer.specs.Stack.{Stack, IsStack, size_of, empty, first_last, entry_at}

-- a history begins with a depth, so what the buffer held before it is no matter
pub begins : (s : Stack) (history : List Event) → IsHistory history → fold after s history ≡ stack_of history
begins s [] is = absurd is
begins s (Push e ∷ later) is = absurd is
begins s (Swap e ∷ later) is = absurd is
begins s (Pop ∷ later) is = absurd is
begins s (Clear ∷ later) is = absurd is
begins s (SetDepth d ∷ later) is = refl
begins s (Turn w ∷ later) is = absurd is
begins s (Poke i part value ∷ later) is = absurd is

pub depth_follows : (s : Stack) (history : List Event) → (fold after s history).depth ≡ deep_from s.depth history
depth_follows s [] = refl
depth_follows s (Push e ∷ later) = depth_follows (after s (Push e)) later
depth_follows s (Swap e ∷ later) = depth_follows (after s (Swap e)) later
depth_follows s (Pop ∷ later) = depth_follows (after s Pop) later
depth_follows s (Clear ∷ later) = depth_follows (after s Clear) later
depth_follows s (SetDepth d ∷ later) = depth_follows (after s (SetDepth d)) later
depth_follows s (Turn w ∷ later) = depth_follows (after s (Turn w)) later
depth_follows s (Poke i part value ∷ later) = depth_follows (after s (Poke i part value)) later

pub length-first_last : (xs : List Entry) → length (first_last xs) ≡ length xs
length-first_last [] = refl
length-first_last (e ∷ older) = length-append older (unlinked e ∷ []) ∙ omega arith

pub below_size : (n : ℕ) (d : Depth) → n % entries_of d < entries_of d
below_size n d = mod_below n (entries_of d) (omega (arith, least_entries d))

-- a stack stays one
pub stays : (s : Stack) (e : Event) → IsStack s → IsStack (after s e)
stays s (Push e) is = record {
  full = omega (arith, length-take (size_of s - 1) s.slots, is.full, least_entries s.depth);
  within = below_size (s.pointer + 1) s.depth;
}
stays s (Swap e) is = record { full = length-set s.slots 0 e ∙ is.full; within = is.within }
stays s Pop is = record {
  full = length-first_last s.slots ∙ is.full;
  within = below_size (s.pointer + size_of s - 1) s.depth;
}
stays s Clear is = record { full = length-replicate (size_of s) zero_entry; within = is.within }
stays s (SetDepth d) is = record { full = length-replicate (entries_of d) zero_entry; within = omega (arith, least_entries d) }
stays s (Turn w) is = record {
  full = length-map-range_with_len _ 0 (size_of s);
  within = below_size w s.depth;
}
stays s (Poke i part value) is = record { full = length-set s.slots i (with_part (entry_at s i) part value) ∙ is.full; within = is.within }

pub all_stay : (s : Stack) (history : List Event) → IsStack s → IsStack (fold after s history)
all_stay s [] is = is
all_stay s (e ∷ later) is = all_stay (after s e) later (stays s e is)

pub empty_is : (d : Depth) → IsStack (empty d)
empty_is d = record { full = length-replicate (entries_of d) zero_entry; within = omega (arith, least_entries d) }

-- where no event sets the pointer
pub none_since : (history : List Event) → list_any sets_pointer history ≡ false → since history ≡ history
none_since [] none = refl
none_since (Push e ∷ later) none = rw none refl
none_since (Swap e ∷ later) none = rw none refl
none_since (Pop ∷ later) none = rw none refl
none_since (Clear ∷ later) none = rw none refl
none_since (SetDepth d ∷ later) none = absurd (cc none)
none_since (Turn w ∷ later) none = absurd (cc none)
none_since (Poke i part value ∷ later) none = rw none refl

pub none_set : (a : ℕ) (history : List Event) → list_any sets_pointer history ≡ false → set_from a history ≡ a
none_set a [] none = refl
none_set a (Push e ∷ later) none = rw none refl
none_set a (Swap e ∷ later) none = rw none refl
none_set a (Pop ∷ later) none = rw none refl
none_set a (Clear ∷ later) none = rw none refl
none_set a (SetDepth d ∷ later) none = absurd (cc none)
none_set a (Turn w ∷ later) none = absurd (cc none)
none_set a (Poke i part value ∷ later) none = rw none refl

pub none_deep : (depth : Depth) (history : List Event) → list_any sets_pointer history ≡ false → deep_from depth history ≡ depth
none_deep depth [] none = refl
none_deep depth (Push e ∷ later) none = none_deep depth later none
none_deep depth (Swap e ∷ later) none = none_deep depth later none
none_deep depth (Pop ∷ later) none = none_deep depth later none
none_deep depth (Clear ∷ later) none = none_deep depth later none
none_deep depth (SetDepth d ∷ later) none = absurd (cc none)
none_deep depth (Turn w ∷ later) none = absurd (cc none)
none_deep depth (Poke i part value ∷ later) none = none_deep depth later none

-- where one does, where the pointer was before is no matter
pub some_set : (a b : ℕ) (history : List Event) → list_any sets_pointer history ≡ true → set_from a history ≡ set_from b history
some_set a b [] some = absurd (cc some)
some_set a b (Push e ∷ later) some = rw some (some_set a b later some)
some_set a b (Swap e ∷ later) some = rw some (some_set a b later some)
some_set a b (Pop ∷ later) some = rw some (some_set a b later some)
some_set a b (Clear ∷ later) some = rw some (some_set a b later some)
some_set a b (SetDepth d ∷ later) some =
    elim (cases_Bool (list_any sets_pointer later)) [ inl sets ↦ rw sets (some_set a b later sets) | inr never ↦ rw never refl ]
some_set a b (Turn w ∷ later) some =
    elim (cases_Bool (list_any sets_pointer later)) [ inl sets ↦ rw sets (some_set a b later sets) | inr never ↦ rw never refl ]
some_set a b (Poke i part value ∷ later) some = rw some (some_set a b later some)

-- the depth of an event is kept by the rest
pub deep_step : (s : Stack) (e : Event) (later : List Event) → deep_from s.depth (e ∷ later) ≡ deep_from (after s e).depth later
deep_step s (Push e) later = refl
deep_step s (Swap e) later = refl
deep_step s Pop later = refl
deep_step s Clear later = refl
deep_step s (SetDepth d) later = refl
deep_step s (Turn w) later = refl
deep_step s (Poke i part value) later = refl

-- a remainder may be taken before
pub mod_first : (size a pushes pops : ℕ) → (a % size + pushes + pops) % size ≡ (a + pushes + pops) % size
mod_first size a pushes pops =
    ap (λ (n : ℕ). n % size) (add_assoc (a % size) pushes pops)
    ∙ mod-add-mod a size (pushes + pops)
    ∙ ap (λ (n : ℕ). n % size) (sym (add_assoc a pushes pops))

-- an event and then a count is the count with the event
pub count_step : (s : Stack) (e : Event) (later : List Event)
    → pointer_after (size_of (after s e)) (after s e).pointer later ≡ pointer_after (size_of (after s e)) (place_set s.pointer e) (cond (sets_pointer e) later (e ∷ later))
count_step s (Push e) later =
    let size = size_of s in
    let pushes = count_by is_push later in
    let pops = (size - 1) * count_by is_pop later in
    let sum : s.pointer + 1 + pushes + pops ≡ s.pointer + (1 + pushes) + pops = omega arith in
    rw (sum_by-cons (λ x. cond (is_push x) 1 0) (Push e) later) (mod_first size (s.pointer + 1) pushes pops ∙ ap (λ (n : ℕ). n % size) sum)
count_step s (Swap e) later = refl
count_step s Pop later =
    let size = size_of s in
    let pushes = count_by is_push later in
    let pops = count_by is_pop later in
    let product : (size - 1) * (1 + pops) ≡ (size - 1) * 1 + (size - 1) * pops = mul-add (size - 1) 1 pops in
    let one : (size - 1) * 1 ≡ size - 1 = mul-one (size - 1) in
    let sum : s.pointer + size - 1 + pushes + (size - 1) * pops ≡ s.pointer + pushes + (size - 1) * (1 + pops) =
    omega (arith, product, one, least_entries s.depth) in
    rw (sum_by-cons (λ x. cond (is_pop x) 1 0) Pop later) (mod_first size (s.pointer + size - 1) pushes ((size - 1) * pops) ∙ ap (λ (n : ℕ). n % size) sum)
count_step s Clear later = refl
count_step s (SetDepth d) later = refl
count_step s (Turn w) later = mod_first (size_of s) w (count_by is_push later) ((size_of s - 1) * count_by is_pop later)
count_step s (Poke i part value) later = refl

-- the pointer that each event moves is the pointer that is pointer_after
pub pointer_follows : (s : Stack) (history : List Event) → IsStack s → (fold after s history).pointer ≡ pointer_from s.depth s.pointer history
pointer_follows s [] is =
    let none : s.pointer + 0 + (size_of s - 1) * 0 ≡ s.pointer = omega arith in
    rw none (sym (mod-eq_of_lt is.within))
pointer_follows s (e ∷ later) is =
    let next = after s e in
    let rest : (fold after next later).pointer ≡ pointer_after (entries_of (deep_from next.depth later)) (set_from next.pointer later) (since later) =
    pointer_follows next later (stays s e is) in
    elim (cases_Bool (list_any sets_pointer later)) [
      | inl sets ↦ rw (sets, deep_step s e later, some_set s.pointer next.pointer later sets) rest
      | inr never ↦ rw (never, deep_step s e later, none_deep next.depth later never)
          (rest
          ∙ ap (λ (d : Depth). pointer_after (entries_of d) (set_from next.pointer later) (since later)) (none_deep next.depth later never)
          ∙ ap (λ (n : ℕ). pointer_after (size_of next) n (since later)) (none_set next.pointer later never)
          ∙ ap (λ (es : List Event). pointer_after (size_of next) next.pointer es) (none_since later never)
          ∙ count_step s e later)
    ]
