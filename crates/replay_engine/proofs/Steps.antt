-- One step more, and what the samples of steps cost.
use Rattle.std.proofs.Common.{◌≡◌, ◌∙◌, ap, ℕ, zero, suc, ◌+◌, ◌*◌, ◌≤◌}
use Rattle.std.proofs.Common.{List, arith, Bool, true, false, cond}
use Rattle.ctr_csrs.specs.declared.depth.Depth.{Depth}
use Rattle.ctr_csrs.specs.declared.depth.Depth.TheVariants.{D16, D32, D64, D128, D256}
use Rattle.ctr_csrs.specs.Depths.{entries_of}
use Rattle.rv_hart.specs.Hart.{HartState}
use Rattle.rv_hart.specs.Task.{Irq}
use Rattle.std.specs.Prelude.{if◌then◌else◌}
use Rattle.perf_sample.specs.declared.faults.Place.TheVariants as place
use Rattle.perf_sample.specs.Layout.{LayoutWords, has}
use Rattle.replay_engine.specs.Samples.{hw_index_cost}
use Rattle.replay_engine.specs.Tasks.{TaskState, PresentState, state_on}
use Rattle.replay_engine.specs.Runs.{next_present, present_after, is_due, due_cost, sampling_costs}
use Rattle.replay_engine.specs.declared.sampling.SampleContext.{SampleContext}
use Rattle.replay_engine.specs.Samples.{sample_cost}
use Rattle.replay_engine.specs.Parts.{StepsMade}

pub most_entries : (d : Depth) → entries_of d ≤ 256
most_entries D16 = omega arith
most_entries D32 = omega arith
most_entries D64 = omega arith
most_entries D128 = omega arith
most_entries D256 = omega arith

cond_most : (b : Bool) (n m : ℕ) → n ≤ m → cond b n 0 ≤ m
cond_most true n m h = h
cond_most false n m h = omega arith

hw_most : (layout : LayoutWords) → hw_index_cost layout ≤ 2
hw_most layout = elim (has layout place.HwIndex) as (λ b. (if b then 2 else 0) ≤ 2) [
  | true ↦ omega arith
  | false ↦ omega arith
]

pub sample_most : (layout : LayoutWords) (p : PresentState) → sample_cost layout p ≤ 1029
sample_most layout p = omega (arith, hw_most layout, most_entries p.state.unit.stack.depth)

pub due_most : (s : SampleContext) (p : PresentState) → due_cost s p ≤ 1029
due_most s p = cond_most (is_due s.period p.steps) (sample_cost s.layout p) 1029
    (sample_most s.layout p)

pub costs_most : (s : SampleContext) (irqs : List Irq) (n : ℕ) (p : PresentState) →
    sampling_costs s irqs n p ≤ 1029 * n
costs_most s irqs zero p = omega arith
costs_most s irqs (suc n) p =
    omega (arith, costs_most s irqs n p, due_most s (present_after irqs (suc n) p))

pub step_more : (y y1 y2 y3 : HartState) (x x1 x2 : TaskState) (s : SampleContext) (irqs : List Irq)
    (n : ℕ)
    → StepsMade y y1 x x1 s irqs n
    → state_on y2 x2 ≡ next_present irqs (state_on y1 x1)
    → y2.steps ≡ y1.steps + 1 → y2.accesses ≡ y1.accesses → y2.resident ≡ y1.resident
    → x2.steps ≡ x1.steps + 1 → x2.place ≡ x1.place → x2.core ≡ x1.core → x2.area ≡ x1.area
    → y3 ≡ record y2 { accesses = y2.accesses + due_cost s (state_on y2 x2) }
    → StepsMade y y3 x x2 s irqs (suc n)
step_more y y1 y2 y3 x x1 x2 s irqs n h one steps accesses resident count place core area paid =
    let now : state_on y2 x2 ≡ present_after irqs (suc n) (state_on y x) = one
    ∙ ap (next_present irqs) h.seat in
    let cost : due_cost s (state_on y2 x2)
    ≡ due_cost s (present_after irqs (suc n) (state_on y x)) = ap (due_cost s) now in
    record {
      seat = ap (λ (a : HartState). state_on a x2) paid ∙ now;
      steps = omega (arith, ap (λ (a : HartState). a.steps) paid, steps, h.steps);
      accesses = omega (arith, ap (λ (a : HartState). a.accesses) paid, accesses, h.accesses, cost);
      resident = ap (λ (a : HartState). a.resident) paid ∙ resident ∙ h.resident;
      count = omega (arith, count, h.count);
      place = place ∙ h.place;
      core = core ∙ h.core;
      area = area ∙ h.area;
    }
