-- Steps of a task, the samples that its period wants, and the accesses that they cost the hart.
use Rattle.std.specs.Prelude.{◌≡◌, ℕ, zero, suc, ◌+◌, ◌%◌, ◌<◌, Bool, not, ◌&&◌, nat_eq, cond, List}
use Rattle.std.specs.Prelude.{[], ◌∷◌, ◌++◌, length, take}
use Rattle.std.specs.List.{flat_map}
use Rattle.perf_sample.specs.declared.sample.Sample.{Sample}
use Rattle.perf_sample.specs.Layout.{LayoutWords}
use Rattle.perf_sample.specs.Spelling.{spelling}
use Rattle.rv_hart.specs.Step.{next}
use Rattle.rv_hart.specs.Task.{Irq, causes}
use Rattle.replay_engine.specs.declared.sampling.SampleContext.{SampleContext}
use Rattle.replay_engine.specs.Samples.{sample_of, sample_cost}
use Rattle.replay_engine.specs.Tasks.{PresentState}

-- one step, at which the interrupts of the task's own count become pending
abbrev pub next_present : List Irq → PresentState → PresentState
next_present irqs p = record { state = next (causes irqs p.steps) p.state; steps = p.steps + 1 }

-- so many steps
abbrev pub present_after : List Irq → ℕ → PresentState → PresentState
present_after irqs zero p = p
present_after irqs (suc n) p = next_present irqs (present_after irqs n p)

-- a sample is wanted at this count
abbrev pub is_due : ℕ → ℕ → Bool
is_due period steps = not (nat_eq period 0) && nat_eq (steps % period) 0

-- of a state after a step
abbrev pub due_sample : SampleContext → PresentState → List Sample
due_sample s p = cond (is_due s.period p.steps) (sample_of s p ∷ []) []

-- the samples of so many steps
abbrev pub samples_of_steps : SampleContext → List Irq → ℕ → PresentState → List Sample
samples_of_steps s irqs zero p = []
samples_of_steps s irqs (suc n) p =
    samples_of_steps s irqs n p ++ due_sample s (present_after irqs (suc n) p)

-- samples as bytes
abbrev pub spellings : LayoutWords → List Sample → List ℕ
spellings layout xs = flat_map (spelling layout) xs

-- the accesses of that sample
abbrev pub due_cost : SampleContext → PresentState → ℕ
due_cost s p = cond (is_due s.period p.steps) (sample_cost s.layout p) 0

-- the accesses of the samples of so many steps
abbrev pub sampling_costs : SampleContext → List Irq → ℕ → PresentState → ℕ
sampling_costs s irqs zero p = 0
sampling_costs s irqs (suc n) p =
    sampling_costs s irqs n p + due_cost s (present_after irqs (suc n) p)

-- a proper prefix
abbrev pub IsCut : List ℕ → List ℕ → Type 0
IsCut part whole = (m : ℕ) × (m < length whole) × (part ≡ take m whole)
