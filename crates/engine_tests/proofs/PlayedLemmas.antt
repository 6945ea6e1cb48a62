-- Places and counts after a command, and after others changed a hart.
use Rattle.std.proofs.Common.{◌≡◌, refl, sym, ◌∙◌, ap, subst, ℕ, zero, suc, ◌+◌, ◌*◌, ◌^◌, ◌≤◌, List, [], ◌∷◌, ◌++◌, length, map, take, arith}
use Rattle.std.specs.Prelude.{slice_get, slice_set, Option, Some, None}
use Rattle.std.proofs.lemmas.List.{map-append, map-set, length-set}
use Rattle.std.proofs.lemmas.Option.{same_Some, none-some}
use Rattle.rv_hart.specs.Hart.{HartState, fresh_harts}
use Rattle.replay_engine.specs.Counts.{CountsHaveRoom, CountsWithin}
use Rattle.replay_engine.specs.Start.{size_of, mem_of}
use Rattle.sched_text.specs.declared.schedule.TaskLine.{TaskLine}
use Rattle.replay_engine.specs.Tasks.{TaskState, PresentState, AreInverse, PlacesAgree, state_at, state_by, present_state, places, residents, resident_of}
use Rattle.replay_engine.specs.View.{view_of, accesses_of, steps_of}
use Rattle.engine_tests.specs.Played.{IsPlayed}

pub has_room : (n : ℕ) (ts : List TaskState) (hs : List HartState) → n ≤ 1000000 → IsPlayed n ts hs → CountsHaveRoom (2 ^ 61) (view_of ts hs)
has_room n ts hs few p = record {
  few_accesses = λ h k e. omega (arith, few, p.counts.few_accesses h k e);
  few_steps = λ h k e. omega (arith, few, p.counts.few_steps h k e);
  few_counts = λ t q e. omega (arith, few, p.counts.few_counts t q e);
}

-- before the first command
pub played_first : (ts : List TaskState) (hs : List HartState) → hs ≡ fresh_harts → PlacesAgree ts fresh_harts → CountsWithin 0 0 0 (view_of ts fresh_harts) → IsPlayed 0 ts hs
played_first ts hs fresh places counts = subst (IsPlayed 0 ts) (sym fresh) (record { places = places; counts = counts })

pub played_after : (m : ℕ) (us : List TaskState) (gs : List HartState) → PlacesAgree us gs
    → CountsWithin (m * 2 ^ 40 + 2 ^ 40) (m * 1000000000 + 1000000000) (m * 1000000000 + 1000000000) (view_of us gs) → IsPlayed (m + 1) us gs
played_after m us gs places w = record {
  places = places;
  counts = record {
    few_accesses = λ h k e. omega (arith, w.few_accesses h k e);
    few_steps = λ h k e. omega (arith, w.few_steps h k e);
    few_counts = λ t p e. omega (arith, w.few_counts t p e);
  };
}

-- a hart that others changed
get_map : {A B : Type 0} (f : A → B) (xs : List A) (i : ℕ) (x : A) → slice_get xs i ≡ Some x → slice_get (map f xs) i ≡ Some (f x)
get_map f [] i x e = absurd (none-some x e)
get_map f (z ∷ zs) zero x e = ap (λ (w : _). Some (f w)) (same_Some z x e)
get_map f (z ∷ zs) (suc i) x e = get_map f zs i x e

got_by : {A B : Type 0} (f : A → B) (xs : List A) (i : ℕ) (y : B) → slice_get (map f xs) i ≡ Some y → (x : A) × (slice_get xs i ≡ Some x) × (f x ≡ y)
got_by f [] i y e = absurd (none-some y e)
got_by f (z ∷ zs) zero y e = (z, refl, same_Some (f z) y e)
got_by f (z ∷ zs) (suc i) y e = got_by f zs i y e

set_got : {A : Type 0} (xs : List A) (i : ℕ) (x : A) → slice_get xs i ≡ Some x → slice_set xs i x ≡ xs
set_got [] i x e = refl
set_got (z ∷ zs) zero x e = ap (λ (w : _). w ∷ zs) (sym (same_Some z x e))
set_got (z ∷ zs) (suc i) x e = ap (λ (ws : List _). z ∷ ws) (set_got zs i x e)

-- a number of each item stays below, where it does of the item that is changed
below_set : (f : HartState → ℕ) (hs : List HartState) (h m : ℕ) (y : HartState) → ((g k : ℕ) → slice_get (map f hs) g ≡ Some k → k ≤ m) → f y ≤ m
    → (g k : ℕ) → slice_get (map f (slice_set hs h y)) g ≡ Some k → k ≤ m
below_set f [] h m y all few g k e = all g k e
below_set f (z ∷ zs) zero m y all few zero k e = omega (arith, few, same_Some (f y) k e)
below_set f (z ∷ zs) zero m y all few (suc g) k e = all (suc g) k e
below_set f (z ∷ zs) (suc h) m y all few zero k e = all zero k e
below_set f (z ∷ zs) (suc h) m y all few (suc g) k e = below_set f zs h m y (λ i j p. all (suc i) j p) few g k e

on_steps : (o : Option HartState) (x : TaskState) → (state_at o x).steps ≡ x.steps
on_steps (Some y) x = refl
on_steps None x = refl

present_steps : (place : Option ℕ) (hs : List HartState) (x : TaskState) → (state_by place hs x).steps ≡ x.steps
present_steps None hs x = refl
present_steps (Some h) hs x = on_steps (slice_get hs h) x

pub changed_hart : (m : ℕ) (ts : List TaskState) (hs : List HartState) (h : ℕ) (y z : HartState) → slice_get hs h ≡ Some y
    → z.resident ≡ y.resident → z.steps ≡ y.steps → z.accesses ≤ y.accesses + 4 → IsPlayed m ts hs → IsPlayed (m + 1) ts (slice_set hs h z)
changed_hart m ts hs h y z at home steps few p =
    let homes : residents (slice_set hs h z) ≡ residents hs =
    map-set resident_of hs h z ∙ ap (slice_set (residents hs) h) home ∙ set_got (residents hs) h y.resident (get_map resident_of hs h y at) in
    let more = m * 2 ^ 40 + 2 ^ 40 in
    let far = m * 1000000000 + 1000000000 in
    played_after m ts (slice_set hs h z)
    (record {
      inverse = subst (AreInverse (places ts)) (sym homes) p.places.inverse;
      sixteen = length-set hs h z ∙ p.places.sixteen;
    })
    (record {
      few_accesses = below_set accesses_of hs h more z (λ g k e. omega (arith, p.counts.few_accesses g k e))
          (omega (arith, few, p.counts.few_accesses h y.accesses (get_map accesses_of hs h y at)));
      few_steps = below_set steps_of hs h far z (λ g k e. omega (arith, p.counts.few_steps g k e))
          (omega (arith, steps, p.counts.few_steps h y.steps (get_map steps_of hs h y at)));
      few_counts = λ t q e.
          let x = got_by (present_state (slice_set hs h z)) ts t q e in
          omega (
            arith,
            ap (λ (r : PresentState). r.steps) x.2,
            present_steps x.0.place (slice_set hs h z) x.0,
            present_steps x.0.place hs x.0,
            p.counts.few_counts t (present_state hs x.0) (get_map (present_state hs) ts t x.0 x.1),
          );
    })

pub few_accesses : (m : ℕ) (ts : List TaskState) (hs : List HartState) (h : ℕ) (y : HartState) → m ≤ 1000000 → slice_get hs h ≡ Some y → IsPlayed m ts hs → y.accesses ≤ 2 ^ 62
few_accesses m ts hs h y few at p = omega (arith, few, p.counts.few_accesses h y.accesses (get_map accesses_of hs h y at))

-- one more memory for one more task line
pub one_memory_more : (ms : List (List ℕ)) (m : List ℕ) (lines : List TaskLine) (i : ℕ) (x : TaskLine) → map size_of ms ≡ map mem_of (take i lines)
    → take (i + 1) lines ≡ take i lines ++ x ∷ [] → length m ≡ x.mem → map size_of (ms ++ m ∷ []) ≡ map mem_of (take (i + 1) lines)
one_memory_more ms m lines i x all more one =
    map-append size_of ms (m ∷ [])
    ∙ ap (λ (ns : List ℕ). ns ++ length m ∷ []) all
    ∙ ap (λ (n : ℕ). map mem_of (take i lines) ++ n ∷ []) one
    ∙ sym (ap (map mem_of) more ∙ map-append mem_of (take i lines) (x ∷ []))
