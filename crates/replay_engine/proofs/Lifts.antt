-- From one task and one hart to the lists of them.
use Rattle.std.proofs.Common.{◌≡◌, refl, sym, ◌∙◌, ap, subst, ℕ, ◌+◌, ◌*◌, ◌≤◌, ◌^◌, List}
use Rattle.std.proofs.Common.{length, arith}
use Rattle.std.specs.Prelude.{slice_get, slice_set, Option, Some, None}
use Rattle.std.proofs.lemmas.List.{map-set, length-set, length-map}
use Rattle.std.proofs.lemmas.Option.{slice_get_within}
use Rattle.ctr_csrs.specs.Depths.{entries_of}
use Rattle.indirect_regs.specs.Unit.{UnitState}
use Rattle.rv_hart.specs.Hart.{HartState}
use Rattle.task_switch.specs.SaveArea.{area_of, unit_in}
use Rattle.task_switch.specs.WhilePassing.{with_last_select}
use Rattle.replay_engine.specs.Tasks.{TaskState, AreInverse, PlacesAgree, state_on}
use Rattle.replay_engine.specs.Tasks.{state_off, state_at, state_by, present_state}
use Rattle.replay_engine.specs.Tasks.{place_of, places, resident_of, residents}
use Rattle.replay_engine.specs.View.{View, view_of, accesses_of, steps_of}
use Rattle.replay_engine.specs.View.{after_leaving, after_arriving}
use Rattle.replay_engine.proofs.Items.{get_map, got_by, get_set_other}
use Rattle.replay_engine.proofs.Inverses.{inverse_off, inverse_on}
use Rattle.replay_engine.proofs.Moves.{left_is, arrived_is}
use Rattle.replay_engine.proofs.Makes.{room_left_by, room_arrived_by}
use Rattle.replay_engine.proofs.Steps.{most_entries}
use Rattle.replay_engine.specs.Counts.{CountsHaveRoom}

-- a hart whose accesses leave room
pub room_at : (n : ℕ) (ts : List TaskState) (hs : List HartState) (h : ℕ) (y : HartState) →
    CountsHaveRoom n (view_of ts hs) → slice_get hs h ≡ Some y → y.accesses ≤ n
room_at n ts hs h y room got = room.few_accesses h y.accesses (get_map accesses_of hs h y got)

pub within_harts : (ts : List TaskState) (hs : List HartState) (t h : ℕ) → PlacesAgree ts hs →
    slice_get (places ts) t ≡ Some (Some h) → h ≤ 15
within_harts ts hs t h kept at =
    omega (
      arith,
      slice_get_within (residents hs) h (Some t)
          (kept.inverse.placed t h at),
      length-map hs resident_of,
      kept.sixteen,
    )

pub within_tasks : (ts : List TaskState) (t : ℕ) (q : Option ℕ) → slice_get (places ts) t ≡ Some q →
    t + 1 ≤ length ts
within_tasks ts t q at = omega (arith, slice_get_within (places ts) t q at, length-map ts place_of)

-- a change of one hart leaves the others
pub others_stay : (hs hs' : List HartState) (h : ℕ) (y : HartState) → hs' ≡ slice_set hs h y →
    (k : ℕ)
    → (k ≡ h → ⊥) → slice_get hs' k ≡ slice_get hs k
others_stay hs hs' h y is k other =
    ap (λ (zs : List HartState). slice_get zs k) is ∙ get_set_other hs h k y other

pub record Left (ts ts' : List TaskState) (hs hs' : List HartState) (t h : ℕ) : Type 0 where
  pub view : view_of ts' hs' ≡ after_leaving t h (view_of ts hs)
  pub kept : PlacesAgree ts' hs'
  pub seats : places ts' ≡ slice_set (places ts) t None
  pub homes : residents hs' ≡ slice_set (residents hs) h None
  pub others : (k : ℕ) → (k ≡ h → ⊥) → slice_get hs' k ≡ slice_get hs k

off_task : TaskState → HartState → TaskState
off_task x y = record x { core = y.core; area = area_of y.unit; place = None }

off_hart : TaskState → HartState → HartState
off_hart x y = record y {
  core = x.core;
  unit = with_last_select y.unit;
  accesses =
      y.accesses + (5 + 4 * entries_of y.unit.stack.depth);
  resident = None;
}

pub left_all : (ts ts' : List TaskState) (hs hs' : List HartState) (t h : ℕ) → PlacesAgree ts hs →
    slice_get (places ts) t ≡ Some (Some h)
    → ((x : TaskState) (y : HartState) → slice_get ts t ≡ Some x → slice_get hs h ≡ Some y → ts'
    ≡ slice_set ts t (record x { core = y.core; area = area_of y.unit; place = None }))
    → ((x : TaskState) (y : HartState) → slice_get ts t ≡ Some x → slice_get hs h ≡ Some y → hs'
    ≡ slice_set hs h (record y {
      core = x.core;
      unit = with_last_select y.unit;
      accesses =
          y.accesses + (5 + 4 * entries_of y.unit.stack.depth);
      resident = None;
    }))
    → ((y : HartState) → slice_get hs h ≡ Some y → unit_in (area_of y.unit) ≡ y.unit)
    → Left ts ts' hs hs' t h
unfolding off_task off_hart
left_all ts ts' hs hs' t h kept at tasks harts holds =
    let a = got_by place_of ts t (Some h) at in
    let b = got_by resident_of hs h (Some t) (kept.inverse.placed t h at) in
    let x = a.0 in
    let y = b.0 in
    let et : ts' ≡ slice_set ts t (off_task x y) = tasks x y a.1 b.1 in
    let eh : hs' ≡ slice_set hs h (off_hart x y) = harts x y a.1 b.1 in
    let same : state_off (off_task x y) ≡ state_on y x =
    ap (λ (u : UnitState). record {
      state =
          record { core = y.core; unit = u; mem = x.mem };
      steps = x.steps;
    }) (holds y b.1) in
    let seats : places ts' ≡ slice_set (places ts) t None = ap places et
    ∙ map-set place_of ts t (off_task x y) in
    let homes : residents hs' ≡ slice_set (residents hs) h None = ap residents eh
    ∙ map-set resident_of hs h (off_hart x y) in
    record {
      view = ap (λ (zs : List TaskState). view_of zs hs') et
          ∙ ap (view_of (slice_set ts t (off_task x y))) eh
          ∙ left_is ts hs t h x (off_task x y) y (off_hart x y)
          kept.inverse a.1 b.1 a.2 same refl refl refl refl;
      kept = record {
        inverse = subst (λ (ps : List (Option ℕ)). AreInverse ps (residents hs')) (sym seats)
            (subst (AreInverse (slice_set (places ts) t None)) (sym homes)
            (inverse_off (places ts) (residents hs) t h kept.inverse at));
        sixteen = ap length eh ∙ length-set hs h (off_hart x y) ∙ kept.sixteen;
      };
      seats = seats;
      homes = homes;
      others = others_stay hs hs' h (off_hart x y) eh;
    }

pub record Arrived (ts ts' : List TaskState) (hs hs' : List HartState) (t h : ℕ) : Type 0 where
  pub view : view_of ts' hs' ≡ after_arriving t h (view_of ts hs)
  pub kept : PlacesAgree ts' hs'
  pub seats : places ts' ≡ slice_set (places ts) t (Some h)
  pub others : (k : ℕ) → (k ≡ h → ⊥) → slice_get hs' k ≡ slice_get hs k

on_task : TaskState → HartState → ℕ → TaskState
on_task x y h = record x { core = y.core; place = Some h }

on_the_hart : TaskState → HartState → ℕ → HartState
on_the_hart x y t = record y {
  core = x.core;
  unit = unit_in x.area;
  accesses =
      y.accesses + (6 + 4 * entries_of x.area.depth);
  resident = Some t;
}

pub arrived_all : (ts ts' : List TaskState) (hs hs' : List HartState) (t h : ℕ) →
    PlacesAgree ts hs → slice_get (places ts) t ≡ Some None → slice_get (residents hs) h ≡ Some None
    → ((x : TaskState) (y : HartState) → slice_get ts t ≡ Some x → slice_get hs h ≡ Some y → ts'
    ≡ slice_set ts t (record x { core = y.core; place = Some h }))
    → ((x : TaskState) (y : HartState) → slice_get ts t ≡ Some x → slice_get hs h ≡ Some y → hs'
    ≡ slice_set hs h (record y {
      core = x.core;
      unit = unit_in x.area;
      accesses =
          y.accesses + (6 + 4 * entries_of x.area.depth);
      resident = Some t;
    }))
    → Arrived ts ts' hs hs' t h
unfolding on_task on_the_hart
arrived_all ts ts' hs hs' t h kept nowhere free tasks harts =
    let a = got_by place_of ts t None nowhere in
    let b = got_by resident_of hs h None free in
    let x = a.0 in
    let y = b.0 in
    let et : ts' ≡ slice_set ts t (on_task x y h) = tasks x y a.1 b.1 in
    let eh : hs' ≡ slice_set hs h (on_the_hart x y t) = harts x y a.1 b.1 in
    let seats : places ts' ≡ slice_set (places ts) t (Some h) = ap places et
    ∙ map-set place_of ts t (on_task x y h) in
    let homes : residents hs' ≡ slice_set (residents hs) h (Some t) = ap residents eh
    ∙ map-set resident_of hs h (on_the_hart x y t) in
    record {
      view = ap (λ (zs : List TaskState). view_of zs hs') et
          ∙ ap (view_of (slice_set ts t (on_task x y h))) eh
          ∙ arrived_is ts hs t h x (on_task x y h) y (on_the_hart x y t)
          kept.inverse a.1 b.1 a.2 b.2 refl refl refl refl refl;
      kept = record {
        inverse = subst (λ (ps : List (Option ℕ)). AreInverse ps (residents hs')) (sym seats)
            (subst (AreInverse (slice_set (places ts) t (Some h))) (sym homes)
            (inverse_on (places ts) (residents hs) t h kept.inverse nowhere free));
        sixteen = ap length eh ∙ length-set hs h (on_the_hart x y t) ∙ kept.sixteen;
      };
      seats = seats;
      others = others_stay hs hs' h (on_the_hart x y t) eh;
    }

pub room_left : (n t h : ℕ) (v w : View) → w ≡ after_leaving t h v → CountsHaveRoom n v →
    CountsHaveRoom (n + 1030) w
room_left n t h v w e room =
    subst (CountsHaveRoom (n + 1030)) (sym e)
    (room_left_by most_entries (slice_get v.present_states t) t h n v room)

pub room_arrived : (n t h : ℕ) (v w : View) → w ≡ after_arriving t h v → CountsHaveRoom n v →
    CountsHaveRoom (n + 1030) w
room_arrived n t h v w e room =
    subst (CountsHaveRoom (n + 1030)) (sym e)
    (room_arrived_by most_entries (slice_get v.present_states t) t h n v room)

pub lift_task : (f : TaskState → HartState → TaskState) (items ts : List TaskState) (t : ℕ)
    (x x' new : TaskState) (y y' : HartState)
    → items ≡ ts → new ≡ f x y → x ≡ x' → y ≡ y' → slice_set items t new ≡ slice_set ts t (f x' y')
lift_task f items ts t x x' new y y' same is ex ey =
    ap (λ (zs : List TaskState). slice_set zs t new) same
    ∙ ap (slice_set ts t) (is ∙ ap (λ (a : TaskState). f a y) ex ∙ ap (f x') ey)

pub lift_hart : (f : TaskState → HartState → HartState) (hs : List HartState) (h : ℕ)
    (x x' : TaskState) (y y' new : HartState)
    → new ≡ f x y → x ≡ x' → y ≡ y' → slice_set hs h new ≡ slice_set hs h (f x' y')
lift_hart f hs h x x' y y' new is ex ey =
    ap (slice_set hs h) (is ∙ ap (λ (a : TaskState). f a y) ex ∙ ap (f x') ey)

on_steps : (o : Option HartState) (x : TaskState) → (state_at o x).steps ≡ x.steps
on_steps (Some y) x = refl
on_steps None x = refl

present_steps : (place : Option ℕ) (hs : List HartState) (x : TaskState) →
    (state_by place hs x).steps ≡ x.steps
present_steps None hs x = refl
present_steps (Some h) hs x = on_steps (slice_get hs h) x

pub count_at : (n : ℕ) (ts : List TaskState) (hs : List HartState) (t : ℕ) (x : TaskState) →
    CountsHaveRoom n (view_of ts hs) → slice_get ts t ≡ Some x → x.steps ≤ 2 ^ 61
count_at n ts hs t x room got =
    omega (
      arith,
      room.few_counts t (present_state hs x)
          (get_map (present_state hs) ts t x got),
      present_steps x.place hs x,
    )

pub steps_room : (n : ℕ) (ts : List TaskState) (hs : List HartState) (h : ℕ) (y : HartState) →
    CountsHaveRoom n (view_of ts hs) → slice_get hs h ≡ Some y → y.steps ≤ 2 ^ 61
steps_room n ts hs h y room got = room.few_steps h y.steps (get_map steps_of hs h y got)
