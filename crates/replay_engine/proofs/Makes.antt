-- What steps and samples of one task make of the view, and how far counts go.
use Rattle.std.proofs.Common.{◌≡◌, refl, sym, ◌∙◌, ap, ℕ, zero, suc, ◌+◌, ◌*◌, ◌≤◌, List, []}
use Rattle.std.proofs.Common.{◌∷◌, map, arith}
use Rattle.std.specs.Prelude.{slice_get, slice_set, Option, Some, None}
use Rattle.std.proofs.lemmas.Option.{none-some}
use Rattle.ctr_csrs.specs.Depths.{entries_of}
use Rattle.ctr_csrs.specs.declared.depth.Depth.{Depth}
use Rattle.rv_hart.specs.Hart.{HartState}
use Rattle.replay_engine.specs.Tasks.{TaskState, PresentState, AreInverse, state_on}
use Rattle.replay_engine.specs.Tasks.{present_state, present_states, place_of}
use Rattle.replay_engine.specs.Tasks.{places, resident_of, residents}
use Rattle.replay_engine.specs.Runs.{sampling_costs}
use Rattle.replay_engine.specs.declared.plan.TaskPlan.{TaskPlan}
use Rattle.replay_engine.specs.View.{View, view_of, steps_of, accesses_of, add_at, Plan, context_of}
use Rattle.replay_engine.specs.View.{after_leaving_by, after_arriving_by}
use Rattle.replay_engine.specs.View.{after_running_by, after_running}
use Rattle.replay_engine.specs.View.{after_sampling_by}
use Rattle.replay_engine.proofs.Items.{get_set_same, set_got, get_map}
use Rattle.replay_engine.proofs.Items.{add_got, some_of}
use Rattle.replay_engine.proofs.Inverses.{alone_there}
use Rattle.replay_engine.proofs.Moves.{view_is, viewed_one, present_there}
use Rattle.replay_engine.specs.Samples.{sample_cost}
use Rattle.replay_engine.specs.Parts.{StepsMade}
use Rattle.replay_engine.specs.Counts.{CountsHaveRoom}

pub ran_is : (plan : Plan) (o : TaskPlan) (ts : List TaskState) (hs : List HartState) (t h n : ℕ)
    (x x' : TaskState) (y y' : HartState)
    → AreInverse (places ts) (residents hs)
    → slice_get ts t ≡ Some x → slice_get hs h ≡ Some y → slice_get plan.tasks t ≡ Some o → x.place
    ≡ Some h
    → StepsMade y y' x x' (context_of plan h t o) o.irqs n
    → view_of (slice_set ts t x') (slice_set hs h y') ≡ after_running plan h t n (view_of ts hs)
ran_is plan o ts hs t h n x x' y y' inverse at got ordered place made =
    let p : slice_get (present_states ts hs) t ≡ Some (state_on y x) =
    get_map (present_state hs) ts t x at ∙ ap Some (present_there hs h x y x.place place got) in
    let now : present_state (slice_set hs h y') x' ≡ state_on y' x' =
    present_there (slice_set hs h y') h x' y' x'.place (made.place ∙ place)
    (get_set_same hs h y y' got) in
    viewed_one ts hs t h x' y'
    (alone_there (places ts) (residents hs) t h inverse (get_map place_of ts t x at
    ∙ ap Some place))
    ∙ view_is _ _ _ _ _ _ _ _ _ _
    (ap (slice_set (present_states ts hs) t) (now ∙ made.seat))
    (ap (slice_set (places ts) t) made.place
    ∙ set_got (places ts) t x.place (get_map place_of ts t x at))
    (ap (slice_set (residents hs) h) made.resident
    ∙ set_got (residents hs) h y.resident (get_map resident_of hs h y got))
    (ap (slice_set (map steps_of hs) h) made.steps
    ∙ sym (add_got (map steps_of hs) h n y.steps (get_map steps_of hs h y got)))
    (ap (slice_set (map accesses_of hs) h) made.accesses
    ∙ sym (add_got (map accesses_of hs) h
    (sampling_costs (context_of plan h t o) o.irqs n (state_on y x)) y.accesses
    (get_map accesses_of hs h y got)))
    ∙ ap (λ (q : Option TaskPlan). after_running_by (Some (state_on y x)) q plan h t n
    (view_of ts hs)) (sym ordered)
    ∙ ap (λ (q : Option PresentState). after_running_by q (slice_get plan.tasks t) plan h t n
    (view_of ts hs)) (sym p)

pub sampled_is : (plan : Plan) (ts : List TaskState) (hs : List HartState) (t h : ℕ) (x : TaskState)
    (y y' : HartState)
    → AreInverse (places ts) (residents hs)
    → slice_get ts t ≡ Some x → slice_get hs h ≡ Some y → x.place ≡ Some h
    → y' ≡ record y { accesses = y.accesses + sample_cost plan.layout (state_on y x) }
    → view_of ts (slice_set hs h y')
    ≡ after_sampling_by (slice_get (present_states ts hs) t) (slice_get (places ts) t) plan
    (view_of ts hs)
sampled_is plan ts hs t h x y y' inverse at got place is =
    let p : slice_get (present_states ts hs) t ≡ Some (state_on y x) =
    get_map (present_state hs) ts t x at ∙ ap Some (present_there hs h x y x.place place got) in
    let q : slice_get (places ts) t ≡ Some (Some h) = get_map place_of ts t x at ∙ ap Some place in
    let now : present_state (slice_set hs h y') x ≡ state_on y x =
    present_there (slice_set hs h y') h x y' x.place place (get_set_same hs h y y' got)
    ∙ ap (λ (z : HartState). state_on z x) is in
    let paid = ap (λ (z : HartState). z.accesses) is in
    ap (λ (zs : List TaskState). view_of zs (slice_set hs h y')) (sym (set_got ts t x at))
    ∙ viewed_one ts hs t h x y' (alone_there (places ts) (residents hs) t h inverse q)
    ∙ view_is _ _ _ _ _ _ _ _ _ _
    (ap (slice_set (present_states ts hs) t) now
    ∙ set_got (present_states ts hs) t (state_on y x) p)
    (set_got (places ts) t x.place (get_map place_of ts t x at))
    (ap (λ (z : HartState). slice_set (residents hs) h z.resident) is
    ∙ set_got (residents hs) h y.resident (get_map resident_of hs h y got))
    (ap (λ (z : HartState). slice_set (map steps_of hs) h z.steps) is
    ∙ set_got (map steps_of hs) h y.steps (get_map steps_of hs h y got))
    (ap (slice_set (map accesses_of hs) h) paid
    ∙ sym (add_got (map accesses_of hs) h (sample_cost plan.layout (state_on y x)) y.accesses
    (get_map accesses_of hs h y got)))
    ∙ ap (λ (r : Option (Option ℕ)). after_sampling_by (Some (state_on y x)) r plan (view_of ts hs))
    (sym q)
    ∙ ap (λ (r : Option PresentState). after_sampling_by r (slice_get (places ts) t) plan
    (view_of ts hs)) (sym p)

-- a number that is added raises the bound
pub add_within : (xs : List ℕ) (i k n m : ℕ) →
    ((h j : ℕ) → slice_get xs h ≡ Some j → j ≤ n) → k ≤ m →
    (h j : ℕ) → slice_get (add_at xs i k) h ≡ Some j → j ≤ n + m
add_within [] i k n m all few h j e = absurd (none-some j e)
add_within (x ∷ xs) zero k n m all few zero j e =
    omega (arith, all zero x refl, few, some_of (x + k) j e)
add_within (x ∷ xs) zero k n m all few (suc h) j e = omega (arith, all (suc h) j e)
add_within (x ∷ xs) (suc i) k n m all few zero j e = omega (arith, all zero j e)
add_within (x ∷ xs) (suc i) k n m all few (suc h) j e =
    add_within xs i k n m (λ g l f. all (suc g) l f) few h j e

pub more_room : (n m : ℕ) (v : View) → n ≤ m → CountsHaveRoom n v → CountsHaveRoom m v
more_room n m v h room = record {
  few_accesses =
      λ g k e. omega (arith, h, room.few_accesses g k e);
  few_steps = room.few_steps;
  few_counts =
      room.few_counts;
}

pub room_left_by : (few : (d : Depth) → entries_of d ≤ 256) (p : Option PresentState) (t h n : ℕ)
    (v : View) → CountsHaveRoom n v → CountsHaveRoom (n + 1030) (after_leaving_by p t h v)
room_left_by few None t h n v room = more_room n (n + 1030) v (omega arith) room
room_left_by few (Some p) t h n v room = record {
  few_accesses = add_within v.accesses h (5 + 4 * entries_of p.state.unit.stack.depth)
      n 1030 room.few_accesses (omega (arith, few p.state.unit.stack.depth));
  few_steps = room.few_steps;
  few_counts = room.few_counts;
}

pub room_arrived_by : (few : (d : Depth) → entries_of d ≤ 256) (p : Option PresentState) (t h n : ℕ)
    (v : View) → CountsHaveRoom n v → CountsHaveRoom (n + 1030) (after_arriving_by p t h v)
room_arrived_by few None t h n v room = more_room n (n + 1030) v (omega arith) room
room_arrived_by few (Some p) t h n v room = record {
  few_accesses = add_within v.accesses h (6 + 4 * entries_of p.state.unit.stack.depth)
      n 1030 room.few_accesses (omega (arith, few p.state.unit.stack.depth));
  few_steps = room.few_steps;
  few_counts = room.few_counts;
}
