-- Samples of runs: those of the lone run, however the run is cut.
use Rattle.std.proofs.Common.{◌≡◌, refl, sym, ◌∙◌, ap, ℕ, zero, suc, ◌+◌, List, [], ◌∷◌}
use Rattle.std.proofs.Common.{◌++◌, arith, append_assoc, append-nil}
use Rattle.std.specs.Prelude.{slice_get, Option, Some}
use Rattle.perf_sample.specs.declared.sample.Sample.{Sample}
use Rattle.replay_engine.specs.declared.sampling.SampleContext.{SampleContext}
use Rattle.rv_hart.specs.Task.{Irq}
use Rattle.sched_text.specs.declared.schedule.Command.{Command}
use Rattle.sched_text.specs.declared.schedule.Command.TheVariants.{Run, Sample as Sampled, Evict}
use Rattle.sched_text.specs.declared.schedule.Command.TheVariants.{End}
use Rattle.replay_engine.specs.Tasks.{PresentState}
use Rattle.replay_engine.specs.Runs.{present_after, samples_of_steps, due_sample}
use Rattle.replay_engine.specs.declared.plan.TaskPlan.{TaskPlan}
use Rattle.replay_engine.specs.View.{View, Plan, context_of, samples_of_run, sample_at_place}
use Rattle.replay_engine.specs.View.{samples_of_command}
use Rattle.replay_engine.specs.Stands.{own_steps, place_after, lone_samples, lone_run_samples}
use Rattle.replay_engine.specs.Stands.{lone_sample, scheduled_of, scheduled_from, scheduled_samples}
use Rattle.replay_engine.specs.Stands.{ViewStandsFor, CanPerform}
use Rattle.replay_engine.proofs.Standing.{advanced_add}

-- a run gives the samples of the lone run
pub run_is_lone : (s : SampleContext) (irqs : List Irq) (m n : ℕ) (p : PresentState) →
    samples_of_steps s irqs n (present_after irqs m p) ≡ lone_samples s irqs m n p
run_is_lone s irqs m zero p = refl
run_is_lone s irqs m (suc n) p =
    ap (λ (xs : List Sample). xs ++ due_sample s
    (present_after irqs (suc n) (present_after irqs m p))) (run_is_lone s irqs m n p)
    ∙ ap (λ (q : PresentState). lone_samples s irqs m n p ++ due_sample s q)
    (advanced_add irqs m (suc n) p)

-- a run that is cut in two gives the same
pub cut_run : (s : SampleContext) (irqs : List Irq) (m n : ℕ) (p : PresentState) →
    samples_of_steps s irqs (m + n) p
    ≡ samples_of_steps s irqs m p ++ samples_of_steps s irqs n (present_after irqs m p)
cut_run s irqs m zero p = let none : m + zero ≡ m = omega arith in
    ap (λ (k : ℕ). samples_of_steps s irqs k p) none
    ∙ sym (append-nil (samples_of_steps s irqs m p))
cut_run s irqs m (suc n) p =
    let sum : m + suc n ≡ suc (m + n) = omega arith in
    ap (λ (k : ℕ). samples_of_steps s irqs k p) sum
    ∙ ap (λ (xs : List Sample). xs ++ due_sample s (present_after irqs (suc (m + n)) p))
    (cut_run s irqs m n p)
    ∙ append_assoc (samples_of_steps s irqs m p)
    (samples_of_steps s irqs n (present_after irqs m p))
    (due_sample s (present_after irqs (suc (m + n)) p))
    ∙ ap (λ (q : PresentState). samples_of_steps s irqs m p ++
    (samples_of_steps s irqs n (present_after irqs m p) ++ due_sample s q))
    (ap (λ (k : ℕ). present_after irqs k p) (sym sum) ∙ sym (advanced_add irqs m (suc n) p))

-- what a command gives where the engine stands for those before it
pub given_is : (plan : Plan) (first : List PresentState) (cs : List Command) (v : View)
    (c : Command) → ViewStandsFor plan first cs v → CanPerform plan first cs c →
    samples_of_command plan v c ≡ scheduled_of plan first cs c
given_is plan first cs v (Run h t n) s a =
    let p = a.0 in let o = a.1 in
    ap (λ (x : Option PresentState). samples_of_run x (slice_get plan.tasks t) plan h t n)
    (s.present_states t p o a.2 a.3)
    ∙ ap (λ (y : Option TaskPlan). samples_of_run (Some (present_after o.irqs (own_steps cs t) p))
    y plan h t n) a.3
    ∙ run_is_lone (context_of plan h t o) o.irqs (own_steps cs t) n p
    ∙ ap (λ (y : Option TaskPlan). lone_run_samples (Some p) y plan h t (own_steps cs t) n) (sym a.3)
    ∙ ap (λ (x : Option PresentState). lone_run_samples x (slice_get plan.tasks t) plan h t
    (own_steps cs t) n) (sym a.2)
given_is plan first cs v (Sampled t) s a =
    let p = a.0 in let o = a.1 in
    let q = present_after o.irqs (own_steps cs t) p in
    ap (λ (x : Option PresentState). sample_at_place x (slice_get v.places t)
    (slice_get plan.tasks t) plan t) (s.present_states t p o a.2 a.3)
    ∙ ap (λ (x : Option (Option ℕ)). sample_at_place (Some q) x (slice_get plan.tasks t) plan t)
    (s.places t p a.2 ∙ ap Some a.6)
    ∙ ap (λ (y : Option TaskPlan). sample_at_place (Some q) (Some (Some a.4)) y plan t) a.3
    ∙ ap (λ (y : Option ℕ). lone_sample (Some p) (Some o) y plan t (own_steps cs t)) (sym a.6)
    ∙ ap (λ (y : Option TaskPlan). lone_sample (Some p) y (place_after cs t) plan t (own_steps cs t))
    (sym a.3)
    ∙ ap (λ (x : Option PresentState). lone_sample x (slice_get plan.tasks t) (place_after cs t)
    plan t (own_steps cs t)) (sym a.2)
given_is plan first cs v (Evict h) s a = refl
given_is plan first cs v End s a = refl

recs_more_from : (plan : Plan) (first : List PresentState) (before cs : List Command) (c : Command)
    → scheduled_from plan first before (cs ++ c ∷ [])
    ≡ scheduled_from plan first before cs ++ scheduled_of plan first (before ++ cs) c
recs_more_from plan first before [] c = append-nil (scheduled_of plan first before c)
    ∙ ap (λ (b : List Command). scheduled_of plan first b c) (sym (append-nil before))
recs_more_from plan first before (d ∷ cs) c =
    ap (λ (xs : List Sample). scheduled_of plan first before d ++ xs)
    (recs_more_from plan first (before ++ d ∷ []) cs c)
    ∙ ap (λ (b : List Command). scheduled_of plan first before d ++
    (scheduled_from plan first (before ++ d ∷ []) cs ++ scheduled_of plan first b c))
    (append_assoc before (d ∷ []) cs)
    ∙ sym (append_assoc (scheduled_of plan first before d)
    (scheduled_from plan first (before ++ d ∷ []) cs)
    (scheduled_of plan first (before ++ d ∷ cs) c))

-- one command more
pub recs_more : (plan : Plan) (first : List PresentState) (cs : List Command) (c : Command) →
    scheduled_samples plan first (cs ++ c ∷ [])
    ≡ scheduled_samples plan first cs ++ scheduled_of plan first cs c
recs_more plan first cs c = recs_more_from plan first [] cs c
