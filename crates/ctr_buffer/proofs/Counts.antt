-- The pointer of a history, pointer_after by additions alone.
use Rattle.std.proofs.Common.{◌≡◌, ℕ, ◌+◌, ◌-◌, ◌*◌, ◌%◌, ◌<◌, List, count_by, ◌∙◌, ap, arith}
use Rattle.std.proofs.Math.Nat.{mod-add-mod, add-mul-mod_self_left, mul-add, mul-one, mul_comm}
use Rattle.std.proofs.lemmas.Nat.{mod_below}
use Rattle.ctr_csrs.specs.Depths.{entries_of}
use Rattle.ctr_csrs.specs.RegisterLaws.{least_entries}
use Rattle.ctr_buffer.specs.declared.event.Event.{Event}
use Rattle.ctr_buffer.specs.History.{IsCounted, HasPointer, pointer_after, deep_of, is_push, is_pop, pointer_of, set_from, since}

-- a pop that counts as one less than the size, and itself, are the size
pub with_itself : (size place pushes pops : ℕ) → 0 < size
    → place + pushes + (size - 1) * pops + pops ≡ place + pushes + size * pops
with_itself size place pushes pops some =
    let shared : pops * (size - 1 + 1) ≡ pops * (size - 1) + pops * 1 = mul-add pops (size - 1) 1 in
    let one : pops * 1 ≡ pops = mul-one pops in
    let all : size - 1 + 1 ≡ size = omega (arith, some) in
    let turned : pops * (size - 1) ≡ (size - 1) * pops = mul_comm pops (size - 1) in
    let turned_all : pops * size ≡ size * pops = mul_comm pops size in
    let product : pops * (size - 1 + 1) ≡ pops * size = ap (λ (n : ℕ). pops * n) all in
    omega (arith, shared, one, turned, turned_all, product)

pub counted_is : (size place : ℕ) (events : List Event) → 0 < size → IsCounted size place events (pointer_after size place events)
counted_is size place events some =
    let pushes = count_by is_push events in
    let pops = count_by is_pop events in
    let before = place + pushes + (size - 1) * pops in
    let whole : before + pops ≡ place + pushes + size * pops = with_itself size place pushes pops some in
    record {
      within = mod_below before size some;
      sum =
          mod-add-mod before size pops
          ∙ ap (λ (n : ℕ). n % size) whole
          ∙ add-mul-mod_self_left (place + pushes) size pops;
    }

pub pointer_sum : (history : List Event) → HasPointer history (pointer_of history)
pointer_sum history =
    counted_is (entries_of (deep_of history)) (set_from 0 history) (since history) (omega (arith, least_entries (deep_of history)))
