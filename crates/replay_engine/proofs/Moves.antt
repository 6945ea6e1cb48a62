-- What a change of one task and one hart makes of the view.
use Rattle.std.proofs.Common.{◌≡◌, refl, sym, ◌∙◌, ap, ℕ, ◌+◌, ◌*◌, List, map}
use Rattle.std.specs.Prelude.{slice_get, slice_set, Option, Some, None}
use Rattle.std.proofs.lemmas.List.{map-set}
use Rattle.ctr_csrs.specs.Depths.{entries_of}
use Rattle.rv_hart.specs.Hart.{HartState}
use Rattle.replay_engine.specs.Tasks.{TaskState, PresentState, AreInverse, state_on, state_off}
use Rattle.replay_engine.specs.Tasks.{state_at, state_by, present_state, present_states, place_of}
use Rattle.replay_engine.specs.Tasks.{places, resident_of, residents}
use Rattle.replay_engine.specs.View.{View, view_of, steps_of, accesses_of, after_leaving_by}
use Rattle.replay_engine.specs.View.{after_leaving, after_arriving_by, after_arriving}
use Rattle.replay_engine.proofs.Items.{get_set_same, get_set_other, set_got, get_map, map_but}
use Rattle.replay_engine.proofs.Items.{add_got}
use Rattle.replay_engine.proofs.Inverses.{alone_there, alone_free}

abbrev View_of : List PresentState → List (Option ℕ) → List (Option ℕ) → List ℕ → List ℕ → View
View_of p q r s a = record {
  present_states = p;
  places = q;
  residents = r;
  steps = s;
  accesses =
      a;
}

pub view_is : (p p' : List PresentState) (q q' r r' : List (Option ℕ)) (s s' a a' : List ℕ) → p
    ≡ p' → q ≡ q' → r ≡ r' → s ≡ s' → a ≡ a'
    → View_of p q r s a ≡ View_of p' q' r' s' a'
view_is p p' q q' r r' s s' a a' ep eq er es ea =
    ap (λ (x : List PresentState). View_of x q r s a) ep
    ∙ ap (λ (x : List (Option ℕ)). View_of p' x r s a) eq
    ∙ ap (λ (x : List (Option ℕ)). View_of p' q' x s a) er
    ∙ ap (λ (x : List ℕ). View_of p' q' r' x a) es
    ∙ ap (λ (x : List ℕ). View_of p' q' r' s' x) ea

-- another hart is no matter
other_hart : (hs : List HartState) (h : ℕ) (y : HartState) (x : TaskState) (place : Option ℕ) →
    (place ≡ Some h → ⊥) → state_by place (slice_set hs h y) x ≡ state_by place hs x
other_hart hs h y x None ne = refl
other_hart hs h y x (Some g) ne =
    ap (λ (o : Option HartState). state_at o x) (get_set_other hs h g y (λ e. ne (ap Some e)))

pub presents_one : (ts : List TaskState) (hs : List HartState) (t h : ℕ) (x : TaskState)
    (y : HartState)
    → ((u : ℕ) → slice_get (places ts) u ≡ Some (Some h) → u ≡ t)
    → present_states (slice_set ts t x) (slice_set hs h y)
    ≡ slice_set (present_states ts hs) t (present_state (slice_set hs h y) x)
presents_one ts hs t h x y alone =
    map_but (present_state hs) (present_state (slice_set hs h y)) ts t x
    (λ u z ne e. other_hart hs h y z z.place
    (λ at. ne (alone u (get_map place_of ts u z e ∙ ap Some at))))

pub viewed_one : (ts : List TaskState) (hs : List HartState) (t h : ℕ) (x : TaskState)
    (y : HartState)
    → ((u : ℕ) → slice_get (places ts) u ≡ Some (Some h) → u ≡ t)
    → view_of (slice_set ts t x) (slice_set hs h y)
    ≡ View_of (slice_set (present_states ts hs) t (present_state (slice_set hs h y) x))
    (slice_set (places ts) t x.place) (slice_set (residents hs) h y.resident)
    (slice_set (map steps_of hs) h y.steps) (slice_set (map accesses_of hs) h y.accesses)
viewed_one ts hs t h x y alone =
    view_is _ _ _ _ _ _ _ _ _ _ (presents_one ts hs t h x y alone) (map-set place_of ts t x)
    (map-set resident_of hs h y) (map-set steps_of hs h y) (map-set accesses_of hs h y)

-- the present state of a task on a hart
pub present_there : (hs : List HartState) (h : ℕ) (x : TaskState) (y : HartState) (place : Option ℕ)
    → place ≡ Some h → slice_get hs h ≡ Some y → state_by place hs x ≡ state_on y x
present_there hs h x y place at got = ap (λ (p : Option ℕ). state_by p hs x) at
    ∙ ap (λ (o : Option HartState). state_at o x) got

pub left_is : (ts : List TaskState) (hs : List HartState) (t h : ℕ) (x x' : TaskState)
    (y y' : HartState)
    → AreInverse (places ts) (residents hs)
    → slice_get ts t ≡ Some x → slice_get hs h ≡ Some y → x.place ≡ Some h
    → state_off x' ≡ state_on y x → x'.place ≡ None
    → y'.resident ≡ None → y'.steps ≡ y.steps → y'.accesses
    ≡ y.accesses + (5 + 4 * entries_of y.unit.stack.depth)
    → view_of (slice_set ts t x') (slice_set hs h y') ≡ after_leaving t h (view_of ts hs)
left_is ts hs t h x x' y y' inverse at got place same gone free steps accesses =
    let p : slice_get (present_states ts hs) t ≡ Some (state_on y x) =
    get_map (present_state hs) ts t x at ∙ ap Some (present_there hs h x y x.place place got) in
    let now : present_state (slice_set hs h y') x' ≡ state_on y x =
    ap (λ (o : Option ℕ). state_by o (slice_set hs h y') x') gone ∙ same in
    viewed_one ts hs t h x' y'
    (alone_there (places ts) (residents hs) t h inverse (get_map place_of ts t x at
    ∙ ap Some place))
    ∙ view_is _ _ _ _ _ _ _ _ _ _
    (ap (slice_set (present_states ts hs) t) now
    ∙ set_got (present_states ts hs) t (state_on y x) p)
    (ap (slice_set (places ts) t) gone)
    (ap (slice_set (residents hs) h) free)
    (ap (slice_set (map steps_of hs) h) steps
    ∙ set_got (map steps_of hs) h y.steps (get_map steps_of hs h y got))
    (ap (slice_set (map accesses_of hs) h) accesses
    ∙ sym (add_got (map accesses_of hs) h (5 + 4 * entries_of y.unit.stack.depth) y.accesses
    (get_map accesses_of hs h y got)))
    ∙ ap (λ (o : Option PresentState). after_leaving_by o t h (view_of ts hs)) (sym p)

pub arrived_is : (ts : List TaskState) (hs : List HartState) (t h : ℕ) (x x' : TaskState)
    (y y' : HartState)
    → AreInverse (places ts) (residents hs)
    → slice_get ts t ≡ Some x → slice_get hs h ≡ Some y → x.place ≡ None → y.resident ≡ None
    → state_on y' x' ≡ state_off x → x'.place ≡ Some h
    → y'.resident ≡ Some t → y'.steps ≡ y.steps → y'.accesses
    ≡ y.accesses + (6 + 4 * entries_of x.area.depth)
    → view_of (slice_set ts t x') (slice_set hs h y') ≡ after_arriving t h (view_of ts hs)
arrived_is ts hs t h x x' y y' inverse at got place free same there resident steps accesses =
    let p : slice_get (present_states ts hs) t ≡ Some (state_off x) =
    get_map (present_state hs) ts t x at ∙ ap (λ (o : Option ℕ). Some (state_by o hs x))
    place in
    let now : present_state (slice_set hs h y') x' ≡ state_off x =
    present_there (slice_set hs h y') h x' y' x'.place there (get_set_same hs h y y' got)
    ∙ same in
    viewed_one ts hs t h x' y'
    (alone_free (places ts) (residents hs) t h inverse (get_map resident_of hs h y got
    ∙ ap Some free))
    ∙ view_is _ _ _ _ _ _ _ _ _ _
    (ap (slice_set (present_states ts hs) t) now ∙ set_got (present_states ts hs) t (state_off x) p)
    (ap (slice_set (places ts) t) there)
    (ap (slice_set (residents hs) h) resident)
    (ap (slice_set (map steps_of hs) h) steps
    ∙ set_got (map steps_of hs) h y.steps (get_map steps_of hs h y got))
    (ap (slice_set (map accesses_of hs) h) accesses
    ∙ sym (add_got (map accesses_of hs) h (6 + 4 * entries_of x.area.depth) y.accesses
    (get_map accesses_of hs h y got)))
    ∙ ap (λ (o : Option PresentState). after_arriving_by o t h (view_of ts hs)) (sym p)
