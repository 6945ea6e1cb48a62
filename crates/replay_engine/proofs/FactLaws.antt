-- What every engine keeps to is kept by every command.
use Rattle.std.proofs.Common.{◌≡◌, refl, sym, ◌∙◌, ap, subst, ℕ, zero, suc, ◌<◌, List, []}
use Rattle.std.proofs.Common.{◌∷◌, length, map, nat_lt, Bool, true, false, cond, inl, inr, arith}
use Rattle.std.specs.Prelude.{slice_get, slice_set, Option, Some, None, Result, Ok, Err}
use Rattle.std.specs.Prelude.{if◌then◌else◌}
use Rattle.std.specs.List.{All}
use Rattle.std.proofs.lemmas.List.{map-set, length-map}
use Rattle.std.proofs.lemmas.Option.{none-some}
use Rattle.rv_hart.specs.Hart.{HartState}
use Rattle.rv_hart.specs.StepLaws.{MemoryKeepsItsSize}
use Rattle.rv_hart.specs.Task.{Irq, causes}
use Rattle.sched_text.specs.declared.schedule.Command.{Command}
use Rattle.sched_text.specs.declared.schedule.Command.TheVariants.{Run, Sample as Sampled, Evict}
use Rattle.sched_text.specs.declared.schedule.Command.TheVariants.{End}
use Rattle.replay_engine.specs.declared.fault.PerformFault.{PerformFault}
use Rattle.replay_engine.specs.declared.fault.PerformFault.TheVariants.{NoTask, NoHart, NotResident}
use Rattle.replay_engine.specs.declared.fault.PerformFault.TheVariants.{EmptyHart, Write}
use Rattle.replay_engine.specs.declared.plan.TaskPlan.{TaskPlan}
use Rattle.replay_engine.specs.Engine.{IsEngine, HasWholeArea, AreBelow, AreApart, memory_size}
use Rattle.replay_engine.specs.Outcome.{IsOutcome, refusal}
use Rattle.replay_engine.specs.Runs.{present_after}
use Rattle.replay_engine.specs.Tasks.{TaskState, PresentState, AreInverse, PlacesAgree, places}
use Rattle.replay_engine.specs.Tasks.{residents, state_at, state_by, present_states}
use Rattle.replay_engine.specs.View.{View, Plan, view_of, after_leaving_by}
use Rattle.replay_engine.specs.View.{after_arriving_by, after_arriving, after_freeing_by}
use Rattle.replay_engine.specs.View.{after_freeing, after_parting_by, after_parting, is_on}
use Rattle.replay_engine.specs.View.{after_bringing, after_running_by}
use Rattle.replay_engine.specs.View.{after_sampling_by, after_command}
use Rattle.replay_engine.proofs.Items.{either, get_set_other, set_got, some_of}
use Rattle.replay_engine.proofs.Performs.{brought_presents, freed_presents, ran_places}
use Rattle.replay_engine.proofs.Withins.{lt_is}

-- a place that is left, and one that is come to
below_none : (n t : ℕ) (ps : List (Option ℕ)) → AreBelow n ps → AreBelow n (slice_set ps t None)
below_none n t ps below u h e = elim (either u t) [
  | inl same ↦ absurd (none_at ps t h (sym (ap (slice_get (slice_set ps t None)) same) ∙ e))
  | inr other ↦ below u h (sym (get_set_other ps t u None other) ∙ e)
] where
  none_at : (ps : List (Option ℕ)) (t h : ℕ) → slice_get (slice_set ps t None) t ≡ Some (Some h) → ⊥
  none_at [] t h e = none-some (Some h) e
  none_at (p ∷ ps) zero h e = none-some h (some_of None (Some h) e)
  none_at (p ∷ ps) (suc t) h e = none_at ps t h e

below_some : (n t h : ℕ) (ps : List (Option ℕ)) → h < n → AreBelow n ps →
    AreBelow n (slice_set ps t (Some h))
below_some n t h ps few below u g e = elim (either u t) [
  | inl same ↦ some_at ps t g (sym (ap (slice_get (slice_set ps t (Some h))) same) ∙ e)
  | inr other ↦ below u g (sym (get_set_other ps t u (Some h) other) ∙ e)
] where
  some_at : (ps : List (Option ℕ)) (t g : ℕ) → slice_get (slice_set ps t (Some h)) t
      ≡ Some (Some g) → g < n
  some_at [] t g e = absurd (none-some (Some g) e)
  some_at (p ∷ ps) zero g e = omega (arith, few, some_of h g (some_of (Some h) (Some g) e))
  some_at (p ∷ ps) (suc t) g e = some_at ps t g e

left_below : (o : Option PresentState) (n t h : ℕ) (v : View) → AreBelow n v.places →
    AreBelow n (after_leaving_by o t h v).places
left_below None n t h v below = below
left_below (Some p) n t h v below = below_none n t v.places below

freed_below : (o : Option (Option ℕ)) (n h : ℕ) (v : View) → AreBelow n v.places →
    AreBelow n (after_freeing_by o h v).places
freed_below (Some (Some u)) n h v below = left_below (slice_get v.present_states u) n u h v below
freed_below (Some None) n h v below = below
freed_below None n h v below = below

parted_below : (o : Option (Option ℕ)) (n t : ℕ) (v : View) → AreBelow n v.places →
    AreBelow n (after_parting_by o t v).places
parted_below (Some (Some g)) n t v below = left_below (slice_get v.present_states t) n t g v below
parted_below (Some None) n t v below = below
parted_below None n t v below = below

arrived_below : (o : Option PresentState) (n t h : ℕ) (v : View) → h < n → AreBelow n v.places →
    AreBelow n (after_arriving_by o t h v).places
arrived_below None n t h v few below = below
arrived_below (Some p) n t h v few below = below_some n t h v.places few below

cond_below : (b : Bool) (n : ℕ) (v w : View) → AreBelow n v.places → AreBelow n w.places →
    AreBelow n (cond b v w).places
cond_below true n v w first second = first
cond_below false n v w first second = second

brought_below : (n t h : ℕ) (v : View) → h < n → AreBelow n v.places →
    AreBelow n (after_bringing t h v).places
brought_below n t h v few below =
    let v1 = after_parting t v in
    let v2 = after_freeing h v1 in
    cond_below (is_on (slice_get v.places t) h) n v (after_arriving t h v2) below
    (arrived_below (slice_get v2.present_states t) n t h v2 few
    (freed_below (slice_get v1.residents h) n h v1
    (parted_below (slice_get v.places t) n t v below)))

sampled_places : (p : Option PresentState) (q : Option (Option ℕ)) (plan : Plan) (v : View) →
    (after_sampling_by p q plan v).places ≡ v.places
sampled_places (Some p) (Some (Some h)) plan v = refl
sampled_places (Some p) (Some None) plan v = refl
sampled_places (Some p) None plan v = refl
sampled_places None q plan v = refl

-- a run that isn't refused is on a hart of the schedule
run_below : (plan : Plan) (v : View) (h t n : ℕ) → refusal plan v (Run h t n)
    ≡ None → h < plan.harts
run_below plan v h t n e = by (nat_lt t (length plan.tasks)) (nat_lt h plan.harts) refl e where
  by : (a b : Bool) → nat_lt h plan.harts ≡ b →
      (if a then (if b then None else Some NoHart) else Some NoTask) ≡ None → h < plan.harts
  by true true is e = lt_is h plan.harts is
  by true false is e = absurd (none-some NoHart (sym e))
  by false b is e = absurd (none-some NoTask (sym e))

below_after : (plan : Plan) (v : View) (c : Command) → refusal plan v c ≡ None →
    AreBelow plan.harts v.places → AreBelow plan.harts (after_command plan v c).places
below_after plan v (Run h t n) allowed below =
    let w = after_bringing t h v in
    subst (AreBelow plan.harts)
    (sym (ran_places (slice_get w.present_states t) (slice_get plan.tasks t) plan h t n w))
    (brought_below plan.harts t h v (run_below plan v h t n allowed) below)
below_after plan v (Sampled t) allowed below =
    subst (AreBelow plan.harts)
    (sym (sampled_places (slice_get v.present_states t) (slice_get v.places t) plan v)) below
below_after plan v (Evict h) allowed below =
    freed_below (slice_get v.residents h) plan.harts h v below
below_after plan v End allowed below = below

-- the sizes of memories
size_of : PresentState → ℕ
size_of p = length p.state.mem

steps_size : MemoryKeepsItsSize → (irqs : List Irq) (n : ℕ) (p : PresentState) →
    size_of (present_after irqs n p) ≡ size_of p
unfolding size_of
steps_size keeps irqs zero p = refl
steps_size keeps irqs (suc n) p =
    let q = present_after irqs n p in
    keeps (causes irqs q.steps) q.state ∙ steps_size keeps irqs n p

ran_sizes : MemoryKeepsItsSize → (p : Option PresentState) (o : Option TaskPlan) (plan : Plan)
    (h t n : ℕ) (v : View) → slice_get v.present_states t ≡ p
    → map size_of (after_running_by p o plan h t n v).present_states ≡ map size_of v.present_states
ran_sizes keeps (Some p) (Some o) plan h t n v at =
    map-set size_of v.present_states t (present_after o.irqs n p)
    ∙ ap (slice_set (map size_of v.present_states) t) (steps_size keeps o.irqs n p)
    ∙ sym (map-set size_of v.present_states t p)
    ∙ ap (map size_of) (set_got v.present_states t p at)
ran_sizes keeps (Some p) None plan h t n v at = refl
ran_sizes keeps None o plan h t n v at = refl

sampled_states : (p : Option PresentState) (q : Option (Option ℕ)) (plan : Plan) (v : View) →
    (after_sampling_by p q plan v).present_states ≡ v.present_states
sampled_states (Some p) (Some (Some h)) plan v = refl
sampled_states (Some p) (Some None) plan v = refl
sampled_states (Some p) None plan v = refl
sampled_states None q plan v = refl

sizes_after : MemoryKeepsItsSize → (plan : Plan) (v : View) (c : Command) →
    map size_of (after_command plan v c).present_states ≡ map size_of v.present_states
sizes_after keeps plan v (Run h t n) =
    let w = after_bringing t h v in
    ran_sizes keeps (slice_get w.present_states t) (slice_get plan.tasks t) plan h t n w refl
    ∙ ap (map size_of) (brought_presents t h v)
sizes_after keeps plan v (Sampled t) =
    ap (map size_of) (sampled_states (slice_get v.present_states t) (slice_get v.places t) plan v)
sizes_after keeps plan v (Evict h) = ap (map size_of) (freed_presents (slice_get v.residents h) h v)
sizes_after keeps plan v End = refl

hart_size : (o : Option HartState) (x : TaskState) → size_of (state_at o x) ≡ memory_size x
unfolding size_of
hart_size (Some y) x = refl
hart_size None x = refl

task_size : (place : Option ℕ) (hs : List HartState) (x : TaskState) → size_of (state_by place hs x)
    ≡ memory_size x
unfolding size_of
task_size None hs x = refl
task_size (Some h) hs x = hart_size (slice_get hs h) x

task_sizes : (ts : List TaskState) (hs : List HartState) → map size_of (present_states ts hs)
    ≡ map memory_size ts
task_sizes [] hs = refl
task_sizes (x ∷ xs) hs =
    ap (λ (n : ℕ). n ∷ map size_of (present_states xs hs)) (task_size x.place hs x)
    ∙ ap (λ (ns : List ℕ). memory_size x ∷ ns) (task_sizes xs hs)

apart : (ps rs : List (Option ℕ)) → AreInverse ps rs → AreApart ps
apart ps rs inverse t u h first second =
    some_of t u (some_of (Some t) (Some u) (sym (inverse.placed t h first)
    ∙ inverse.placed u h second))

-- what a command left of the tasks
after_view : (plan : Plan) (ts ts' : List TaskState) (hs hs' : List HartState) (c : Command)
    (broken now : Bool)
    → MemoryKeepsItsSize → refusal plan (view_of ts hs) c ≡ None → PlacesAgree ts' hs' →
    view_of ts' hs' ≡ after_command plan (view_of ts hs) c → All HasWholeArea ts'
    → IsEngine (record { plan = plan; tasks = ts; broken = broken }) →
    IsEngine (record { plan = plan; tasks = ts'; broken = now })
after_view plan ts ts' hs hs' c broken now keeps allowed agree view areas is =
    let sizes : map memory_size ts' ≡ map memory_size ts
    = sym (task_sizes ts' hs') ∙ ap (λ (v : View). map size_of v.present_states) view
    ∙ sizes_after keeps plan (view_of ts hs) c ∙ task_sizes ts hs in
    let same : length ts' ≡ length ts = sym (length-map ts' memory_size)
    ∙ ap length sizes ∙ length-map ts memory_size in
    record {
      one_hart = is.one_hart;
      harts = is.harts;
      layout = is.layout;
      branch = is.branch;
      orders = is.orders;
      one_task = omega (arith, same, is.one_task);
      few = omega (arith, same, is.few);
      areas = areas;
      size = is.size ∙ sym same;
      memories = sizes ∙ is.memories;
      below = subst (λ (v : View). AreBelow plan.harts v.places) (sym view)
          (below_after plan (view_of ts hs) c allowed is.below);
      apart = apart (places ts') (residents hs') agree.inverse;
    }

same_tasks : (plan : Plan) (ts ts' : List TaskState) (broken now : Bool) → ts' ≡ ts
    → IsEngine (record { plan = plan; tasks = ts; broken = broken }) →
    IsEngine (record { plan = plan; tasks = ts'; broken = now })
same_tasks plan ts ts' broken now e is =
    let here : IsEngine (record { plan = plan; tasks = ts; broken = now }) =
    record {
      one_hart = is.one_hart;
      harts = is.harts;
      layout = is.layout;
      branch = is.branch;
      orders = is.orders;
      one_task = is.one_task;
      few = is.few;
      areas = is.areas;
      size = is.size;
      memories = is.memories;
      below =
          is.below;
      apart = is.apart;
    } in
    subst (λ (xs : List TaskState). IsEngine (record { plan = plan; tasks = xs; broken = now }))
    (sym e) here

pub facts_kept : {K : Type 0} (gained : K → List ℕ → K → Type 0) (old new : K) (plan : Plan)
    (ts ts' : List TaskState) (hs hs' : List HartState) (c : Command)
    (r : Result (Unit {0}) PerformFault) (broken now : Bool)
    → MemoryKeepsItsSize → IsOutcome gained old new plan ts ts' hs hs' c r → All HasWholeArea ts'
    → IsEngine (record { plan = plan; tasks = ts; broken = broken }) →
    IsEngine (record { plan = plan; tasks = ts'; broken = now })
facts_kept gained old new plan ts ts' hs hs' c (Ok x) broken now keeps o areas is =
    after_view plan ts ts' hs hs' c broken now keeps o.allowed o.kept o.done.view areas is
facts_kept gained old new plan ts ts' hs hs' c (Err NoTask) broken now keeps o areas is =
    same_tasks plan ts ts' broken now o.tasks is
facts_kept gained old new plan ts ts' hs hs' c (Err NoHart) broken now keeps o areas is =
    same_tasks plan ts ts' broken now o.tasks is
facts_kept gained old new plan ts ts' hs hs' c (Err NotResident) broken now keeps o areas is =
    same_tasks plan ts ts' broken now o.tasks is
facts_kept gained old new plan ts ts' hs hs' c (Err EmptyHart) broken now keeps o areas is =
    same_tasks plan ts ts' broken now o.tasks is
facts_kept gained old new plan ts ts' hs hs' (Run h t n) (Err Write) broken now keeps o areas is =
    after_view plan ts ts' hs hs' (Run h t (suc o.broke.before))
    broken now keeps o.allowed o.kept o.broke.view areas is
facts_kept gained old new plan ts ts' hs hs' (Sampled t) (Err Write) broken now keeps o areas is =
    after_view plan ts ts' hs hs' (Sampled t) broken now keeps o.allowed o.kept o.broke.view areas is
facts_kept gained old new plan ts ts' hs hs' (Evict h) (Err Write) broken now keeps o areas is =
    absurd o.broke
facts_kept gained old new plan ts ts' hs hs' End (Err Write) broken now keeps o areas is = absurd o.broke
