-- An engine and harts that stand for some commands stand for one more after it.
use Rattle.std.proofs.Common.{◌≡◌, refl, sym, ◌∙◌, ap, subst, ℕ, zero, suc, ◌+◌, ◌*◌, ◌<◌, List, []}
use Rattle.std.proofs.Common.{◌∷◌, ◌++◌, inl, inr, nat_eq, Bool, cond, arith}
use Rattle.std.proofs.Common.{append_assoc, append-nil}
use Rattle.std.proofs.Math.Nat.{add-zero}
use Rattle.std.specs.Prelude.{slice_get, slice_set, Option, Some, None}
use Rattle.std.proofs.lemmas.Bool.{cases_Bool, eqb-true}
use Rattle.std.proofs.lemmas.Grind.{common_steps}
use Rattle.std.proofs.lemmas.List.{length-set}
use Rattle.std.proofs.lemmas.List.Sums.{fold-append}
use Rattle.std.proofs.lemmas.Option.{slice_get_within}
use Rattle.rv_hart.specs.Task.{Irq}
use Rattle.sched_text.specs.declared.schedule.Command.{Command}
use Rattle.sched_text.specs.declared.schedule.Command.TheVariants.{Run, Sample as Sampled, Evict}
use Rattle.sched_text.specs.declared.schedule.Command.TheVariants.{End}
use Rattle.replay_engine.specs.Tasks.{PresentState, AreInverse}
use Rattle.replay_engine.specs.Runs.{present_after, next_present, sampling_costs}
use Rattle.replay_engine.specs.declared.plan.TaskPlan.{TaskPlan}
use Rattle.replay_engine.specs.View.{View, Plan, context_of, after_leaving_by}
use Rattle.replay_engine.specs.View.{after_freeing_by, after_freeing, is_at}
use Rattle.replay_engine.specs.View.{after_bringing, after_running_by}
use Rattle.replay_engine.specs.View.{after_sampling_by, after_command}
use Rattle.replay_engine.specs.Samples.{hw_index_cost}
use Rattle.replay_engine.specs.Stands.{steps_for, steps_at, own_steps, steps_on, place_next}
use Rattle.replay_engine.specs.Stands.{place_after, resident_next, resident_after, task_depth_by}
use Rattle.replay_engine.specs.Stands.{task_depth, leaving, bringing, run_costs, cost, costs_from}
use Rattle.replay_engine.specs.Stands.{accesses_on, ViewStandsFor, CanPerform}
use Rattle.replay_engine.proofs.Items.{get_set, get_add, get_set_same, get_set_other}
use Rattle.replay_engine.proofs.Items.{some_of, get_there}
use Rattle.replay_engine.proofs.Brings.{Before, After, brings, depth_at, leaves}

pub own_more : (cs : List Command) (c : Command) (t : ℕ) → own_steps (cs ++ c ∷ []) t
    ≡ own_steps cs t + steps_for t c
own_more cs c t = grind (arith, common_steps)

pub steps_more : (cs : List Command) (c : Command) (h : ℕ) → steps_on (cs ++ c ∷ []) h
    ≡ steps_on cs h + steps_at h c
steps_more cs c h = grind (arith, common_steps)

pub place_more : (cs : List Command) (c : Command) (t : ℕ) → place_after (cs ++ c ∷ []) t
    ≡ place_next t (place_after cs t) c
place_more cs c t = fold-append (place_next t) None cs (c ∷ [])

pub resident_more : (cs : List Command) (c : Command) (h : ℕ) → resident_after (cs ++ c ∷ []) h
    ≡ resident_next h (resident_after cs h) c
resident_more cs c h = fold-append (resident_next h) None cs (c ∷ [])

costs_more_from : (plan : Plan) (first : List PresentState) (before cs : List Command) (c : Command)
    (h : ℕ)
    → costs_from plan first before (cs ++ c ∷ []) h
    ≡ costs_from plan first before cs h + cost plan first (before ++ cs) c h
costs_more_from plan first before [] c h = ap (λ (b : List Command). cost plan first b c h + 0)
    (sym (append-nil before)) ∙ omega arith
costs_more_from plan first before (d ∷ cs) c h =
    ap (λ (n : ℕ). cost plan first before d h + n)
    (costs_more_from plan first (before ++ d ∷ []) cs c h)
    ∙ ap (λ (b : List Command). cost plan first before d h +
    (costs_from plan first (before ++ d ∷ []) cs h + cost plan first b c h))
    (append_assoc before (d ∷ []) cs)
    ∙ omega arith

pub accesses_more : (plan : Plan) (first : List PresentState) (cs : List Command) (c : Command)
    (h : ℕ) → accesses_on plan first (cs ++ c ∷ []) h
    ≡ accesses_on plan first cs h + cost plan first cs c h
accesses_more plan first cs c h = costs_more_from plan first [] cs c h

pub advanced_add : (irqs : List Irq) (m n : ℕ) (p : PresentState) →
    present_after irqs n (present_after irqs m p) ≡ present_after irqs (m + n) p
advanced_add irqs m zero p = let none : m ≡ m + zero = omega arith in
    ap (λ (k : ℕ). present_after irqs k p) none
advanced_add irqs m (suc n) p =
    let sum : suc (m + n) ≡ m + suc n = omega arith in
    ap (next_present irqs) (advanced_add irqs m n p) ∙ ap (λ (k : ℕ). present_after irqs k p) sum

known_of : (plan : Plan) (first : List PresentState) (cs : List Command) (v : View) (t : ℕ)
    (q : Option ℕ) → ViewStandsFor plan first cs v → slice_get v.places t ≡ Some q
    → (p : PresentState) × (o : TaskPlan) × (slice_get first t ≡ Some p)
    × (slice_get plan.tasks t ≡ Some o)
known_of plan first cs v t q s e =
    let within = slice_get_within v.places t q e in
    let p = get_there first t (omega (arith, within, s.size)) in
    let o = get_there plan.tasks t (omega (arith, within, s.size, s.orders)) in
    (p.0, o.0, p.1, o.1)

-- what is known of a task and a hart where the engine stands for the commands
before_it : (plan : Plan) (first : List PresentState) (cs : List Command) (v : View) (t h : ℕ)
    (p : PresentState) (o : TaskPlan) → ViewStandsFor plan first cs v
    → slice_get first t ≡ Some p → slice_get plan.tasks t ≡ Some o → h < 16 →
    Before t h (place_after cs t) (resident_after cs h) (task_depth plan first cs) v
before_it plan first cs v t h p o s at ordered within = record {
  inverse = s.inverse;
  p = present_after o.irqs (own_steps cs t) p;
  state = s.present_states t p o at ordered;
  deep = sym (ap (λ (x : Option PresentState). task_depth_by x (slice_get plan.tasks t)
      (own_steps cs t)) at ∙ ap (λ (y : Option TaskPlan). task_depth_by (Some p) y (own_steps cs t))
      ordered);
  place = s.places t p at;
  resident = s.residents h within;
  other = λ w is.
      let there : slice_get v.places w ≡ Some (Some h) =
      s.inverse.resides h w (s.residents h within ∙ ap Some is) in
      let known = known_of plan first cs v w (Some h) s there in (
        present_after known.1.irqs (own_steps cs w) known.0,
        s.present_states w known.0 known.1 known.2 known.3,
        sym (ap (λ (x : Option PresentState). task_depth_by x (slice_get plan.tasks w)
            (own_steps cs w)) known.2 ∙ ap
            (λ (y : Option TaskPlan). task_depth_by (Some known.0) y (own_steps cs w)) known.3),
      );
}

-- run: the present states
run_presents : (plan : Plan) (first xs : List PresentState) (cs : List Command) (t h n : ℕ)
    (p : PresentState) (o : TaskPlan)
    → ((u : ℕ) (q : PresentState) (r : TaskPlan) → slice_get first u ≡ Some q → slice_get plan.tasks u
    ≡ Some r → slice_get xs u ≡ Some (present_after r.irqs (own_steps cs u) q))
    → slice_get first t ≡ Some p → slice_get plan.tasks t ≡ Some o
    → (u : ℕ) (q : PresentState) (r : TaskPlan) → slice_get first u ≡ Some q → slice_get plan.tasks u
    ≡ Some r
    → slice_get (slice_set xs t (present_after o.irqs n (present_after o.irqs (own_steps cs t) p)))
    u ≡ Some (present_after r.irqs (own_steps (cs ++ Run h t n ∷ []) u) q)
run_presents plan first xs cs t h n p o known at ordered u q r is its =
    elim (cases_Bool (nat_eq t u)) [
      | inl same ↦
          let e : t ≡ u = eqb-true t u same in
          let mine : p ≡ q = some_of p q (sym at ∙ ap (slice_get first) e ∙ is) in
          let orders : o ≡ r = some_of o r (sym ordered ∙ ap (slice_get plan.tasks) e ∙ its) in
          let more : own_steps cs t + n ≡ own_steps (cs ++ Run h t n ∷ []) u =
          ap (λ (k : ℕ). own_steps cs k + n) e
          ∙ sym (own_more cs (Run h t n) u ∙ ap (λ (b : Bool). own_steps cs u + cond b n 0) same) in
          subst (λ (k : ℕ). slice_get
          (slice_set xs t (present_after o.irqs n (present_after o.irqs (own_steps cs t) p))) k
          ≡ Some (present_after r.irqs (own_steps (cs ++ Run h t n ∷ []) u) q)) e
          (get_set_same xs t (present_after o.irqs (own_steps cs t) p) _ (known t p o at ordered)
          ∙ ap Some (advanced_add o.irqs (own_steps cs t) n p
          ∙ ap (λ (k : ℕ). present_after o.irqs k p) more
          ∙ ap (λ (x : PresentState). present_after o.irqs (own_steps (cs ++ Run h t n ∷ []) u) x)
          mine
          ∙ ap (λ (y : TaskPlan). present_after y.irqs (own_steps (cs ++ Run h t n ∷ []) u) q)
          orders))
      | inr other ↦
          let apart : u ≡ t → ⊥ = λ e. grind (arith, other, e) in
          let more : own_steps cs u ≡ own_steps (cs ++ Run h t n ∷ []) u =
          sym (own_more cs (Run h t n) u ∙ ap (λ (b : Bool). own_steps cs u + cond b n 0) other
          ∙ omega arith) in
          get_set_other xs t u _ apart ∙ known u q r is its
          ∙ ap (λ (k : ℕ). Some (present_after r.irqs k q)) more
    ]

flip : (i j : ℕ) → nat_eq i j ≡ nat_eq j i
flip i j = elim (cases_Bool (nat_eq i j)) [
  | inl same ↦ same ∙ sym (let e = eqb-true i j same in grind (arith, e))
  | inr other ↦ other ∙ sym (grind (arith, other))
]

stand_run_from : (plan : Plan) (first : List PresentState) (cs : List Command) (v w : View)
    (h t n : ℕ) (p : PresentState) (o : TaskPlan)
    → ViewStandsFor plan first cs v → slice_get first t ≡ Some p → slice_get plan.tasks t ≡ Some o →
    h < 16
    → After t h (place_after cs t) (resident_after cs h) (task_depth plan first cs) v w
    → AreInverse w.places w.residents
    → ViewStandsFor plan first (cs ++ Run h t n ∷ [])
    (after_running_by (Some (present_after o.irqs (own_steps cs t) p)) (Some o) plan h t n w)
stand_run_from plan first cs v w h t n p o s at ordered within b i =
    let c = Run h t n in
    record {
      inverse = i;
      size = b.size ∙ s.size;
      orders = s.orders;
      sixteen = b.homes ∙ s.sixteen;
      present_states = run_presents plan first w.present_states cs t h n p o
          (λ u q r is its. ap (λ (xs : List PresentState). slice_get xs u) b.present_states
          ∙ s.present_states u q r is its) at ordered;
      places = λ u q is. b.places u (place_after cs u) (s.places u q is)
          ∙ ap Some (sym (place_more cs c u));
      residents = λ k few. b.residents k (resident_after cs k) (s.residents k few)
          ∙ ap Some (sym (resident_more cs c k));
      steps = λ k few. get_add w.steps h k (steps_on cs k) n
          (ap (λ (xs : List ℕ). slice_get xs k) b.steps ∙ s.steps k few)
          ∙ ap (λ (x : Bool). Some (steps_on cs k + cond x n 0)) (flip k h)
          ∙ ap Some (sym (steps_more cs c k));
      accesses = λ k few.
          let paid = sampling_costs (context_of plan h t o) o.irqs n
          (present_after o.irqs (own_steps cs t) p) in
          let is : run_costs (slice_get first t) (slice_get plan.tasks t) plan h t (own_steps cs t)
          n ≡ paid
          = ap (λ (x : Option PresentState). run_costs x (slice_get plan.tasks t) plan h t
          (own_steps cs t) n) at ∙ ap
          (λ (y : Option TaskPlan). run_costs (Some p) y plan h t (own_steps cs t) n) ordered in
          let moved = bringing (task_depth plan first cs) (place_after cs t) (resident_after cs h)
          t h k in
          get_add w.accesses h k (accesses_on plan first cs k + moved) paid
          (b.accesses k (accesses_on plan first cs k) (s.accesses k few))
          ∙ ap (λ (x : ℕ). Some (accesses_on plan first cs k + moved + cond (nat_eq k h) x 0))
          (sym is)
          ∙ ap Some (omega arith)
          ∙ ap Some (sym (accesses_more plan first cs c k));
    }

pub stand_run : (plan : Plan) (first : List PresentState) (cs : List Command) (v : View) (h t n : ℕ)
    → AreInverse (after_bringing t h v).places (after_bringing t h v).residents
    → ViewStandsFor plan first cs v → CanPerform plan first cs (Run h t n) →
    ViewStandsFor plan first (cs ++ Run h t n ∷ []) (after_command plan v (Run h t n))
stand_run plan first cs v h t n i s a =
    let known = before_it plan first cs v t h a.0 a.1 s a.2 a.3 a.4 in
    let b = brings t h (place_after cs t) (resident_after cs h) (task_depth plan first cs)
    v known in
    let w = after_bringing t h v in
    let there : slice_get w.present_states t ≡ Some (present_after a.1.irqs (own_steps cs t) a.0) =
    ap (λ (xs : List PresentState). slice_get xs t) b.present_states
    ∙ s.present_states t a.0 a.1 a.2 a.3 in
    subst (ViewStandsFor plan first (cs ++ Run h t n ∷ []))
    (sym (ap (λ (x : Option PresentState). after_running_by x (slice_get plan.tasks t) plan h t n w)
    there ∙ ap (λ (y : Option TaskPlan). after_running_by
    (Some (present_after a.1.irqs (own_steps cs t) a.0)) y plan h t n w) a.3))
    (stand_run_from plan first cs v w h t n a.0 a.1 s a.2 a.3 a.4 b i)

-- a command without steps of a task
same_own : (cs : List Command) (c : Command) (t : ℕ) → steps_for t c ≡ 0 → own_steps cs t
    ≡ own_steps (cs ++ c ∷ []) t
same_own cs c t none = sym (own_more cs c t ∙ ap (λ (n : ℕ). own_steps cs t + n) none
    ∙ add-zero (own_steps cs t))

-- a sample: only its accesses
same_plus : (b : Bool) (n k : ℕ) → n + cond b k 0 ≡ n + cond b k 0
same_plus b n k = refl

pub stand_sampled : (plan : Plan) (first : List PresentState) (cs : List Command) (v : View) (t : ℕ)
    → ViewStandsFor plan first cs v → CanPerform plan first cs (Sampled t) →
    ViewStandsFor plan first (cs ++ Sampled t ∷ []) (after_command plan v (Sampled t))
stand_sampled plan first cs v t s a =
    let c = Sampled t in
    let h = a.4 in
    let p = present_after a.1.irqs (own_steps cs t) a.0 in
    let state = s.present_states t a.0 a.1 a.2 a.3 in
    let place = s.places t a.0 a.2 ∙ ap Some a.6 in
    let deep : task_depth plan first cs t ≡ depth_at p
    = ap (λ (x : Option PresentState). task_depth_by x (slice_get plan.tasks t) (own_steps cs t))
    a.2 ∙ ap (λ (y : Option TaskPlan). task_depth_by (Some a.0) y (own_steps cs t)) a.3 in
    let goal_ : ViewStandsFor plan first (cs ++ c ∷ [])
    (after_sampling_by (Some p) (Some (Some h)) plan v) = record {
      inverse = s.inverse;
      size = s.size;
      orders = s.orders;
      sixteen = s.sixteen;
      present_states = λ u q r is its. s.present_states u q r is its
          ∙ ap (λ (k : ℕ). Some (present_after r.irqs k q)) (same_own cs c u refl);
      places = λ u q is. s.places u q is ∙ ap Some (sym (place_more cs c u));
      residents = λ k few. s.residents k few ∙ ap Some (sym (resident_more cs c k));
      steps = λ k few. s.steps k few ∙ ap Some (sym (steps_more cs c k ∙ omega arith));
      accesses = λ k few.
          get_add v.accesses h k (accesses_on plan first cs k)
          (hw_index_cost plan.layout + (3 + 4 * depth_at p)) (s.accesses k few)
          ∙ ap (λ (x : ℕ). Some
          (accesses_on plan first cs k + cond (nat_eq k h)
          (hw_index_cost plan.layout + (3 + 4 * x)) 0)) (sym deep)
          ∙ ap (λ (x : Option ℕ). Some
          (accesses_on plan first cs k + cond (is_at x k)
          (hw_index_cost plan.layout + (3 + 4 * task_depth plan first cs t)) 0)) (sym a.6)
          ∙ ap Some (sym (accesses_more plan first cs c k));
    } in
    subst (ViewStandsFor plan first (cs ++ c ∷ []))
    (sym (ap (λ (x : Option PresentState). after_sampling_by x (slice_get v.places t) plan v) state
    ∙ ap (λ (y : Option (Option ℕ)). after_sampling_by (Some p) y plan v) place))
    goal_

pub stand_end : (plan : Plan) (first : List PresentState) (cs : List Command) (v : View) →
    ViewStandsFor plan first cs v → ViewStandsFor plan first (cs ++ End ∷ []) v
stand_end plan first cs v s = record {
  inverse = s.inverse;
  size = s.size;
  orders = s.orders;
  sixteen = s.sixteen;
  present_states = λ u q r is its. s.present_states u q r is its
      ∙ ap (λ (k : ℕ). Some (present_after r.irqs k q)) (same_own cs End u refl);
  places = λ u q is. s.places u q is ∙ ap Some (sym (place_more cs End u));
  residents = λ k few. s.residents k few ∙ ap Some (sym (resident_more cs End k));
  steps = λ k few. s.steps k few ∙ ap Some (sym (steps_more cs End k ∙ omega arith));
  accesses = λ k few. s.accesses k few
      ∙ ap Some (sym (accesses_more plan first cs End k ∙ omega arith));
}

pub stand_evict : (plan : Plan) (first : List PresentState) (cs : List Command) (v : View) (h : ℕ) →
    AreInverse (after_freeing h v).places (after_freeing h v).residents
    → ViewStandsFor plan first cs v → CanPerform plan first cs (Evict h) →
    ViewStandsFor plan first (cs ++ Evict h ∷ []) (after_command plan v (Evict h))
stand_evict plan first cs v h i s a =
    let c = Evict h in
    let u = a.0 in
    let on : slice_get v.residents h ≡ Some (Some u) = s.residents h a.1 ∙ ap Some a.2 in
    let there = s.inverse.resides h u on in
    let known = known_of plan first cs v u (Some h) s there in
    let p = present_after known.1.irqs (own_steps cs u) known.0 in
    let state = s.present_states u known.0 known.1 known.2 known.3 in
    let deep : task_depth plan first cs u ≡ depth_at p
    = ap (λ (x : Option PresentState). task_depth_by x (slice_get plan.tasks u) (own_steps cs u))
    known.2 ∙ ap (λ (y : Option TaskPlan). task_depth_by (Some known.0) y (own_steps cs u))
    known.3 in
    let made : after_freeing h v ≡ after_leaving_by (Some p) u h v =
    ap (λ (x : Option (Option ℕ)). after_freeing_by x h v) on
    ∙ ap (λ (x : Option PresentState). after_leaving_by x u h v) state in
    subst (ViewStandsFor plan first (cs ++ c ∷ [])) (sym made) (record {
      inverse = subst (λ (w : View). AreInverse w.places w.residents) made i;
      size = length-set v.places u None ∙ s.size;
      orders = s.orders;
      sixteen = length-set v.residents h None ∙ s.sixteen;
      present_states = λ k q r is its. s.present_states k q r is its
          ∙ ap (λ (n : ℕ). Some (present_after r.irqs n q)) (same_own cs c k refl);
      places = λ k q is. get_set v.places u k (place_after cs k) None (s.places k q is)
          ∙ ap Some (leaves v.places v.residents u h s.inverse.placed s.inverse.resides on k
          (place_after cs k) (s.places k q is))
          ∙ ap Some (sym (place_more cs c k));
      residents = λ k few. get_set v.residents h k (resident_after cs k) None (s.residents k few)
          ∙ ap Some (sym (resident_more cs c k));
      steps = λ k few. s.steps k few ∙ ap Some (sym (steps_more cs c k ∙ omega arith));
      accesses = λ k few.
          get_add v.accesses h k (accesses_on plan first cs k) (5 + 4 * depth_at p)
          (s.accesses k few)
          ∙ ap (λ (x : ℕ). Some (accesses_on plan first cs k + cond (nat_eq k h) (5 + 4 * x) 0))
          (sym deep)
          ∙ ap (λ (x : Option ℕ). Some
          (accesses_on plan first cs k + cond (nat_eq k h)
          (leaving (task_depth plan first cs) x) 0)) (sym a.2)
          ∙ ap Some (sym (accesses_more plan first cs c k));
    })
