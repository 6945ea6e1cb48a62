-- One turn of the loop over steps.
use Rattle.std.proofs.Common.{◌≡◌, refl, sym, ◌∙◌, ap, subst, ℕ, suc, ◌+◌, ◌≤◌, ◌<◌, ◌^◌, List, []}
use Rattle.std.proofs.Common.{◌∷◌, ◌++◌, length, take, arith, append-nil, Bool, true, false, cond}
use Rattle.std.specs.Prelude.{OnOk, OnErr, Result, Ok, Err}
use Rattle.replay_engine.specs.Samples.{sample_of, sample_cost}
use Rattle.std.proofs.Math.Numerals.{suc-eq-add-one}
use Rattle.std.proofs.lemmas.Grind.{flat_map-append}
use Rattle.ctr_port.specs.Sink.{GainsPart}
use Rattle.ctr_port.specs.declared.ends.WriteFault.{WriteFault}
use Rattle.perf_sample.specs.Spelling.{spelling}
use Rattle.rv_hart.specs.Hart.{HartState}
use Rattle.rv_hart.specs.Task.{Irq}
use Rattle.replay_engine.specs.Tasks.{TaskState, PresentState, state_on}
use Rattle.replay_engine.specs.Runs.{next_present, present_after, is_due, due_sample, due_cost}
use Rattle.replay_engine.specs.Runs.{samples_of_steps, spellings}
use Rattle.replay_engine.specs.declared.sampling.SampleContext.{SampleContext}
use Rattle.replay_engine.proofs.Steps.{step_more, costs_most}
use Rattle.replay_engine.specs.Parts.{StepsMade, RunMade, RunCut}

pub turn : (y y1 y2 y3 : HartState) (x x1 x2 : TaskState) (s : SampleContext) (irqs : List Irq) (n : ℕ)
    → StepsMade y y1 x x1 s irqs n
    → state_on y2 x2 ≡ next_present irqs (state_on y1 x1)
    → y2 ≡ record y1 { core = y2.core; unit = y2.unit; steps = y1.steps + 1 }
    → x2 ≡ record x1 { mem = x2.mem; steps = x1.steps + 1 }
    → y3 ≡ record y2 { accesses = y2.accesses + due_cost s (state_on y2 x2) }
    → StepsMade y y3 x x2 s irqs (suc n)
turn y y1 y2 y3 x x1 x2 s irqs n h one hart task paid =
    step_more y y1 y2 y3 x x1 x2 s irqs n h one
    (ap (λ (a : HartState). a.steps) hart) (ap (λ (a : HartState). a.accesses) hart)
    (ap (λ (a : HartState). a.resident) hart)
    (ap (λ (a : TaskState). a.steps) task) (ap (λ (a : TaskState). a.place) task)
    (ap (λ (a : TaskState). a.core) task) (ap (λ (a : TaskState). a.area) task) paid

pub spelled_more : (s : SampleContext) (irqs : List Irq) (n : ℕ) (p q : PresentState) → q
    ≡ present_after irqs (suc n) p
    → spellings s.layout (samples_of_steps s irqs n p) ++ spellings s.layout (due_sample s q)
    ≡ spellings s.layout (samples_of_steps s irqs (suc n) p)
spelled_more s irqs n p q e =
    ap (λ (r : PresentState). spellings s.layout (samples_of_steps s irqs n p) ++ spellings s.layout
    (due_sample s r)) e
    ∙ sym (flat_map-append (spelling s.layout) (samples_of_steps s irqs n p)
    (due_sample s (present_after irqs (suc n) p)))

pub made_more : {K : Type 0} (gained : K → List ℕ → K → Type 0) →
    ((a b c : K) (x y : List ℕ) → gained a x b → gained b y c → gained a (x ++ y) c)
    → (old mid new : K) (s : SampleContext) (irqs : List Irq) (n : ℕ) (p q : PresentState) → q
    ≡ present_after irqs (suc n) p
    → gained old (spellings s.layout (samples_of_steps s irqs n p)) mid →
    gained mid (spellings s.layout (due_sample s q)) new
    → gained old (spellings s.layout (samples_of_steps s irqs (n + 1) p)) new
made_more gained joins old mid new s irqs n p q e first second =
    subst (λ (k : ℕ). gained old (spellings s.layout (samples_of_steps s irqs k p)) new)
    (suc-eq-add-one n)
    (subst (λ (bytes : List ℕ). gained old bytes new) (spelled_more s irqs n p q e)
    (joins old mid new _ _ first second))

pub cut_more : {K : Type 0} (gained : K → List ℕ → K → Type 0) →
    ((a b c : K) (x y : List ℕ) → gained a x b → gained b y c → gained a (x ++ y) c)
    → (old mid new : K) (y y' : HartState) (x x' : TaskState) (s : SampleContext) (irqs : List Irq)
    (n all : ℕ) (q : PresentState) → q ≡ present_after irqs (suc n) (state_on y x) → n < all
    → StepsMade y y' x x' s irqs (suc n)
    → gained old (spellings s.layout (samples_of_steps s irqs n (state_on y x))) mid →
    GainsPart gained mid new (spellings s.layout (due_sample s q))
    → RunCut gained old new y y' x x' s irqs all
cut_more gained joins old mid new y y' x x' s irqs n all q e within made first part = record {
  before = n;
  within = within;
  stepped = made;
  last = take part.0 (spellings s.layout (due_sample s q));
  written = joins old mid new _ _ first part.2;
  cut = subst (λ (r : PresentState). (m : ℕ) × (m < length (spellings s.layout (due_sample s r)))
      × (take part.0 (spellings s.layout (due_sample s q))
      ≡ take m (spellings s.layout (due_sample s r)))) e (part.0, part.1, refl);
}

pub room_more : (y y1 : HartState) (x x1 : TaskState) (s : SampleContext) (irqs : List Irq) (n : ℕ) →
    StepsMade y y1 x x1 s irqs n → y.accesses ≤ 2 ^ 61 + 5000 → n ≤ 1000000000 →
    y1.accesses + 2 ≤ 2 ^ 62
room_more y y1 x x1 s irqs n h room few =
    omega (arith, h.accesses, costs_most s irqs n (state_on y x), room, few)

pub due_spelled : (s : SampleContext) (p : PresentState) → is_due s.period p.steps ≡ true →
    spellings s.layout (due_sample s p) ≡ spelling s.layout (sample_of s p)
due_spelled s p now = ap (λ (b : Bool). spellings s.layout (cond b (sample_of s p ∷ []) [])) now
    ∙ append-nil (spelling s.layout (sample_of s p))

pub no_sample : (s : SampleContext) (p : PresentState) → is_due s.period p.steps ≡ false → due_sample s p
    ≡ []
no_sample s p none = ap (λ (b : Bool). cond b (sample_of s p ∷ []) []) none

pub no_cost : (s : SampleContext) (p : PresentState) → is_due s.period p.steps ≡ false → due_cost s p ≡ 0
no_cost s p none = ap (λ (b : Bool). cond b (sample_cost s.layout p) 0) none

pub sample_paid : (s : SampleContext) (p : PresentState) → is_due s.period p.steps ≡ true → due_cost s p
    ≡ sample_cost s.layout p
sample_paid s p now = ap (λ (b : Bool). cond b (sample_cost s.layout p) 0) now

-- steps leave the save area of a task
pub area_stays : {K : Type 0} (gained : K → List ℕ → K → Type 0) (old new : K) (y y' : HartState)
    (x x' : TaskState) (s : SampleContext) (irqs : List Irq) (n : ℕ)
    (r : Result (Unit {0}) WriteFault) →
    OnOk r (RunMade gained old new y y' x x' s irqs n) →
    OnErr r (RunCut gained old new y y' x x' s irqs n) → x'.area ≡ x.area
area_stays gained old new y y' x x' s irqs n (Ok z) made cut = made.stepped.area
area_stays gained old new y y' x x' s irqs n (Err f) made cut = cut.stepped.area
