-- What the parts of a command make together.
use Rattle.std.proofs.Common.{◌≡◌, refl, sym, ◌∙◌, ap, subst, ℕ, suc, ◌+◌, ◌<◌, List, ◌++◌}
use Rattle.std.proofs.Common.{length, nat_lt, Bool, true, false, cond, arith, append-nil}
use Rattle.std.proofs.lemmas.List.{map-set, length-set}
use Rattle.std.specs.Prelude.{slice_get, slice_set, Option, Some, None}
use Rattle.perf_sample.specs.declared.sample.Sample.{Sample}
use Rattle.perf_sample.specs.Layout.{LayoutWords}
use Rattle.perf_sample.specs.Spelling.{spelling}
use Rattle.rv_hart.specs.Hart.{HartState}
use Rattle.sched_text.specs.declared.schedule.Command.TheVariants.{Run, Sample as Sampled}
use Rattle.replay_engine.specs.declared.plan.TaskPlan.{TaskPlan}
use Rattle.replay_engine.specs.Tasks.{TaskState, PresentState, AreInverse, PlacesAgree, state_on}
use Rattle.replay_engine.specs.Tasks.{present_states, place_of, places, resident_of, residents}
use Rattle.replay_engine.specs.Tasks.{present_state}
use Rattle.replay_engine.specs.Samples.{sample_of, sample_cost}
use Rattle.replay_engine.specs.Runs.{present_after, samples_of_steps, due_sample, spellings, IsCut}
use Rattle.replay_engine.specs.View.{View, Plan, view_of, context_of, after_leaving_by}
use Rattle.replay_engine.specs.View.{after_arriving_by, after_arriving}
use Rattle.replay_engine.specs.View.{after_freeing_by, after_freeing, after_parting_by}
use Rattle.replay_engine.specs.View.{after_parting, is_on, after_bringing, after_running_by}
use Rattle.replay_engine.specs.View.{after_running, after_command}
use Rattle.replay_engine.specs.View.{samples_of_run, sample_at_place, samples_of_command}
use Rattle.replay_engine.specs.Outcome.{IsPerformed}
use Rattle.replay_engine.specs.Outcome.{IsCutOff, refusal, due_by}
use Rattle.replay_engine.proofs.Items.{get_map, some_of, set_got}
use Rattle.replay_engine.proofs.Moves.{present_there}
use Rattle.replay_engine.specs.Outcome.{OthersStay}
use Rattle.replay_engine.proofs.Lifts.{others_stay}
use Rattle.replay_engine.proofs.Makes.{ran_is, sampled_is}
use Rattle.replay_engine.specs.Parts.{StepsMade, RunAmong, CutAmong}

-- moves leave every present state
left_presents : (o : Option PresentState) (t h : ℕ) (v : View) →
    (after_leaving_by o t h v).present_states ≡ v.present_states
left_presents (Some p) t h v = refl
left_presents None t h v = refl

arrived_presents : (o : Option PresentState) (t h : ℕ) (v : View) →
    (after_arriving_by o t h v).present_states ≡ v.present_states
arrived_presents (Some p) t h v = refl
arrived_presents None t h v = refl

pub freed_presents : (o : Option (Option ℕ)) (h : ℕ) (v : View) →
    (after_freeing_by o h v).present_states ≡ v.present_states
freed_presents (Some (Some u)) h v = left_presents (slice_get v.present_states u) u h v
freed_presents (Some None) h v = refl
freed_presents None h v = refl

parted_presents : (o : Option (Option ℕ)) (t : ℕ) (v : View) →
    (after_parting_by o t v).present_states ≡ v.present_states
parted_presents (Some (Some g)) t v = left_presents (slice_get v.present_states t) t g v
parted_presents (Some None) t v = refl
parted_presents None t v = refl

cond_presents : (b : Bool) (v w : View) → w.present_states ≡ v.present_states →
    (cond b v w).present_states ≡ v.present_states
cond_presents true v w e = refl
cond_presents false v w e = e

pub brought_presents : (t h : ℕ) (v : View) →
    (after_bringing t h v).present_states ≡ v.present_states
brought_presents t h v =
    let v1 = after_parting t v in
    let v2 = after_freeing h v1 in
    cond_presents (is_on (slice_get v.places t) h) v (after_arriving t h v2)
    (arrived_presents (slice_get v2.present_states t) t h v2
    ∙ freed_presents (slice_get v1.residents h) h v1
    ∙ parted_presents (slice_get v.places t) t v)

pub ran_places : (p : Option PresentState) (o : Option TaskPlan) (plan : Plan) (h t n : ℕ) (v : View)
    → (after_running_by p o plan h t n v).places ≡ v.places
ran_places (Some p) (Some o) plan h t n v = refl
ran_places (Some p) None plan h t n v = refl
ran_places None o plan h t n v = refl

pub ran_residents : (p : Option PresentState) (o : Option TaskPlan) (plan : Plan) (h t n : ℕ)
    (v : View) → (after_running_by p o plan h t n v).residents ≡ v.residents
ran_residents (Some p) (Some o) plan h t n v = refl
ran_residents (Some p) None plan h t n v = refl
ran_residents None o plan h t n v = refl

pub kept_by : (ts ts' : List TaskState) (hs hs' : List HartState) → PlacesAgree ts hs → places ts'
    ≡ places ts → residents hs' ≡ residents hs → length hs' ≡ length hs → PlacesAgree ts' hs'
kept_by ts ts' hs hs' kept seats homes size = record {
  inverse = subst (λ (ps : List (Option ℕ)). AreInverse ps (residents hs')) (sym seats)
      (subst (AreInverse (places ts)) (sym homes) kept.inverse);
  sixteen = size ∙ kept.sixteen;
}

-- a run, after its task was brought to the hart
pub record Ran (plan : Plan) (ts ts1 ts' : List TaskState) (hs hs1 hs' : List HartState) (h t n : ℕ)
    (x : TaskState) (y : HartState) : Type 0 where
  pub view : view_of ts' hs' ≡ after_command plan (view_of ts hs) (Run h t n)
  pub kept : PlacesAgree ts' hs'
  pub state : slice_get (present_states ts hs) t ≡ Some (state_on y x)

pub ran_all : (plan : Plan) (o : TaskPlan) (ts ts1 ts' : List TaskState) (hs hs1 hs' : List HartState)
    (h t n : ℕ) (x x' : TaskState) (y y' : HartState)
    → PlacesAgree ts1 hs1 → slice_get (places ts1) t ≡ Some (Some h) → view_of ts1 hs1
    ≡ after_bringing t h (view_of ts hs)
    → slice_get plan.tasks t ≡ Some o
    → slice_get ts1 t ≡ Some x → slice_get hs1 h ≡ Some y → ts' ≡ slice_set ts1 t x' → hs'
    ≡ slice_set hs1 h y'
    → StepsMade y y' x x' (context_of plan h t o) o.irqs n
    → Ran plan ts ts1 ts' hs hs1 hs' h t n x y
ran_all plan o ts ts1 ts' hs hs1 hs' h t n x x' y y' kept there brings ordered at got tasks harts
    made =
    let place : x.place ≡ Some h =
    some_of x.place (Some h) (sym (get_map place_of ts1 t x at) ∙ there) in
    let v1 = view_of ts1 hs1 in
    let ran_one : view_of ts' hs' ≡ after_running plan h t n v1
    = ap (λ (zs : List TaskState). view_of zs hs') tasks ∙ ap (view_of (slice_set ts1 t x')) harts
    ∙ ran_is plan o ts1 hs1 t h n x x' y y' kept.inverse at got ordered place made in
    record {
      view = ran_one ∙ ap (after_running plan h t n) brings;
      kept = kept_by ts1 ts' hs1 hs' kept
          (ap (λ (v : View). v.places) ran_one
          ∙ ran_places (slice_get v1.present_states t) (slice_get plan.tasks t) plan h t n v1)
          (ap (λ (v : View). v.residents) ran_one
          ∙ ran_residents (slice_get v1.present_states t) (slice_get plan.tasks t)
          plan h t n v1)
          (ap length harts ∙ length-set hs1 h y');
      state = ap (λ (xs : List PresentState). slice_get xs t)
          (sym (ap (λ (v : View). v.present_states) brings ∙ brought_presents t h (view_of ts hs)))
          ∙ get_map (present_state hs1) ts1 t x at
          ∙ ap Some (present_there hs1 h x y x.place place got);
    }

is_lt : (n m : ℕ) → n < m → nat_lt n m ≡ true
is_lt n m h = grind (arith, h)

pub allowed_run : (plan : Plan) (v : View) (h t n : ℕ) → t < length plan.tasks → h < plan.harts →
    refusal plan v (Run h t n) ≡ None
allowed_run plan v h t n there within =
    rw (is_lt t (length plan.tasks) there, is_lt h plan.harts within) refl

pub run_done : {K : Type 0} (gained : K → List ℕ → K → Type 0) (old new : K) (plan : Plan)
    (o : TaskPlan) (ts ts1 ts' : List TaskState) (hs hs1 hs' : List HartState) (h t n : ℕ)
    → t < length plan.tasks → h < plan.harts
    → PlacesAgree ts1 hs1 → slice_get (places ts1) t ≡ Some (Some h) → view_of ts1 hs1
    ≡ after_bringing t h (view_of ts hs)
    → ((k : ℕ) → (k ≡ h → ⊥) → (slice_get (places ts) t ≡ Some (Some k) → ⊥) → slice_get hs1 k
    ≡ slice_get hs k)
    → slice_get plan.tasks t ≡ Some o
    → RunAmong gained old new ts1 ts' hs1 hs' (context_of plan h t o) o.irqs n
    → IsPerformed gained old new plan ts ts' hs hs' (Run h t n)
run_done gained old new plan o ts ts1 ts' hs hs1 hs' h t n few within kept there brings stay ordered
    r =
    let all = ran_all plan o ts ts1 ts' hs hs1 hs' h t n r.x r.x' r.y r.y' kept there brings ordered
    r.task r.hart r.tasks r.harts r.made.stepped in
    let told : samples_of_steps (context_of plan h t o) o.irqs n (state_on r.y r.x)
    ≡ samples_of_command plan (view_of ts hs) (Run h t n)
    = sym (ap (λ (p : Option PresentState). samples_of_run p (slice_get plan.tasks t) plan h t n)
    all.state ∙ ap (λ (q : Option TaskPlan). samples_of_run (Some (state_on r.y r.x))
    q plan h t n) ordered) in
    record {
      allowed = allowed_run plan (view_of ts hs) h t n few within;
      kept = all.kept;
      others = λ k un. others_stay hs1 hs' h r.y' r.harts k un.0 ∙ stay k un.0 un.1;
      done = record {
        view = all.view;
        written = subst (λ (xs : List Sample). gained old (spellings plan.layout xs) new)
            told r.made.written;
      };
    }

pub run_broke : {K : Type 0} (gained : K → List ℕ → K → Type 0) (old new : K) (plan : Plan)
    (o : TaskPlan) (ts ts1 ts' : List TaskState) (hs hs1 hs' : List HartState) (h t n : ℕ)
    → t < length plan.tasks → h < plan.harts
    → PlacesAgree ts1 hs1 → slice_get (places ts1) t ≡ Some (Some h) → view_of ts1 hs1
    ≡ after_bringing t h (view_of ts hs)
    → ((k : ℕ) → (k ≡ h → ⊥) → (slice_get (places ts) t ≡ Some (Some k) → ⊥) → slice_get hs1 k
    ≡ slice_get hs k)
    → slice_get plan.tasks t ≡ Some o
    → CutAmong gained old new ts1 ts' hs1 hs' (context_of plan h t o) o.irqs n
    → IsCutOff gained old new plan ts ts' hs hs' (Run h t n)
run_broke gained old new plan o ts ts1 ts' hs hs1 hs' h t n few within kept there brings stay
    ordered r =
    let k = r.made.before in
    let all = ran_all plan o ts ts1 ts' hs hs1 hs' h t (suc k)
    r.x r.x' r.y r.y' kept there brings ordered r.task r.hart r.tasks r.harts r.made.stepped in
    let p = state_on r.y r.x in
    let told : samples_of_steps (context_of plan h t o) o.irqs k p
    ≡ samples_of_command plan (view_of ts hs) (Run h t k)
    = sym (ap (λ (q : Option PresentState). samples_of_run q (slice_get plan.tasks t) plan h t k)
    all.state ∙ ap (λ (q : Option TaskPlan). samples_of_run (Some p) q plan h t k) ordered) in
    let next_due : due_sample (context_of plan h t o) (present_after o.irqs (suc k) p)
    ≡ due_by (slice_get (present_states ts hs) t) (slice_get plan.tasks t) plan h t (suc k)
    = sym (ap (λ (q : Option PresentState). due_by q (slice_get plan.tasks t) plan h t (suc k))
    all.state ∙ ap (λ (q : Option TaskPlan). due_by (Some p) q plan h t (suc k)) ordered) in
    record {
      allowed = allowed_run plan (view_of ts hs) h t n few within;
      kept = all.kept;
      others = λ k un. others_stay hs1 hs' h r.y' r.harts k un.0 ∙ stay k un.0 un.1;
      broke = record {
        before = k;
        within = r.made.within;
        view = all.view;
        last = r.made.last;
        written = subst (λ (xs : List Sample). gained old (spellings plan.layout xs ++ r.made.last)
            new) told r.made.written;
        cut = subst (λ (xs : List Sample). IsCut r.made.last (spellings plan.layout xs))
            next_due r.made.cut;
      };
    }

-- a sample of a task on its hart
pub record Taken (plan : Plan) (ts : List TaskState) (hs hs' : List HartState) (t : ℕ) (h : ℕ)
    (o : TaskPlan) (x : TaskState) (y : HartState) : Type 0 where
  pub allowed : refusal plan (view_of ts hs) (Sampled t) ≡ None
  pub view : view_of ts hs' ≡ after_command plan (view_of ts hs) (Sampled t)
  pub kept : PlacesAgree ts hs'
  pub others : OthersStay (Sampled t) (places ts) hs hs'
  pub bytes : spelling plan.layout (sample_of (context_of plan h t o) (state_on y x))
      ≡ spellings plan.layout (samples_of_command plan (view_of ts hs) (Sampled t))

pub taken_all : (plan : Plan) (o : TaskPlan) (ts : List TaskState) (hs hs' : List HartState) (t h : ℕ)
    (x : TaskState) (y y' : HartState)
    → PlacesAgree ts hs → t < length plan.tasks → slice_get (places ts) t ≡ Some (Some h) →
    slice_get plan.tasks t ≡ Some o
    → slice_get ts t ≡ Some x → slice_get hs h ≡ Some y → hs' ≡ slice_set hs h y'
    → y' ≡ record y { accesses = y.accesses + sample_cost plan.layout (state_on y x) }
    → Taken plan ts hs hs' t h o x y
taken_all plan o ts hs hs' t h x y y' kept few there ordered at got harts paid =
    let place : x.place ≡ Some h =
    some_of x.place (Some h) (sym (get_map place_of ts t x at) ∙ there) in
    let state : slice_get (present_states ts hs) t ≡ Some (state_on y x) =
    get_map (present_state hs) ts t x at ∙ ap Some (present_there hs h x y x.place place got) in
    let homes : residents hs' ≡ residents hs
    = ap residents harts ∙ map-set resident_of hs h y'
    ∙ ap (λ (z : HartState). slice_set (residents hs) h z.resident) paid
    ∙ set_got (residents hs) h y.resident (get_map resident_of hs h y got) in
    record {
      allowed = rw (is_lt t (length plan.tasks) few, there) refl;
      view = ap (view_of ts) harts ∙ sampled_is plan ts hs t h x y y' kept.inverse at got place
          paid;
      kept = kept_by ts ts hs hs' kept refl homes (ap length harts ∙ length-set hs h y');
      others = λ k un. others_stay hs hs' h y' harts k (λ same. un (there
          ∙ ap (λ (g : ℕ). Some (Some g)) (sym same)));
      bytes = sym (
          ap (λ (q : Option PresentState). spellings plan.layout
          (sample_at_place q (slice_get (places ts) t) (slice_get plan.tasks t) plan t)) state
          ∙ ap (λ (q : Option (Option ℕ)). spellings plan.layout
          (sample_at_place (Some (state_on y x)) q (slice_get plan.tasks t) plan t)) there
          ∙ ap (λ (q : Option TaskPlan). spellings plan.layout
          (sample_at_place (Some (state_on y x)) (Some (Some h)) q plan t)) ordered
          ∙ append-nil (spelling plan.layout (sample_of (context_of plan h t o) (state_on y x))));
    }

pub same_subject : (plan : Plan) (h t : ℕ) (layout : LayoutWords) (o : TaskPlan) → layout
    ≡ plan.layout → context_of plan h t o
    ≡ record { layout = layout; task = t; hart = h; period = o.period }
same_subject plan h t layout o e = ap
    (λ (l : LayoutWords). record { layout = l; task = t; hart = h; period = o.period }) (sym e)
