use Rattle.std.proofs.Common.{◌≡◌, ℕ, ◌+◌, ◌-◌, List, sym, ap, ◌∙◌, subst, arith}
use Rattle.std.specs.Prelude.{OnOk, OnErr, true, false}
use Rattle.ctr_port.specs.Sink.{GainsPart}
use Rattle.perf_sample.specs.Spelling.{spelling}
use Rattle.perf_sample.specs.declared.sample.Sample.{Sample}
use Rattle.replay_engine.specs.Parts.{next_due}
use Rattle.replay_engine.specs.Runs.{spellings, due_cost, is_due}
use Rattle.replay_engine.specs.Samples.{sample_by}
use Rattle.replay_engine.specs.Tasks.{TaskState, state_on}
use Rattle.replay_engine.proofs.DueLaws.{due_now, due_later, due_stays}
use Rattle.replay_engine.proofs.Loops.{due_spelled, no_sample, no_cost, sample_paid}
use Rattle.replay_engine.proofs.running.write_due.Goals as goal

-- no sample is due
pub returns-then-task-due-clause-whole : goal.returns-then-task-due-clause-whole
returns-then-task-due-clause-whole g c =
    let s = c.args.context.now in
    let p = state_on c.args.hart.now c.args.task.now in
    let n = c.args.task.now.steps in
    let one : n ≡ n - 1 + 1 = omega (arith, c.requires.some) in
    let other : n ≡ next_due s.period (n - 1) → ⊥ =
    λ e. absurd (omega (
      arith,
      e,
      c.if-task-due.true,
      c.requires.due,
      ap
          (λ (t : TaskState). t.steps) c.task.view_is,
    )) in
    let none : is_due s.period n ≡ false = due_later s.period (n - 1) n one other in
    subst (λ (xs : List Sample). g.K.Sink.gained c.args.sink.now (spellings s.layout xs)
    c.args.sink.now) (sym (no_sample s p none)) (g.met.K.Sink.gained_nothing c.args.sink.now)

pub returns-then-task-due-clause-hart : goal.returns-then-task-due-clause-hart
returns-then-task-due-clause-hart g c =
    let s = c.args.context.now in
    let y = c.args.hart.now in
    let p = state_on y c.args.task.now in
    let n = c.args.task.now.steps in
    let one : n ≡ n - 1 + 1 = omega (arith, c.requires.some) in
    let other : n ≡ next_due s.period (n - 1) → ⊥ =
    λ e. absurd (omega (
      arith,
      e,
      c.if-task-due.true,
      c.requires.due,
      ap
          (λ (t : TaskState). t.steps) c.task.view_is,
    )) in
    let none : is_due s.period n ≡ false = due_later s.period (n - 1) n one other in
    let same : y.accesses ≡ y.accesses + due_cost s p = omega (arith, no_cost s p none) in
    ap (λ (k : ℕ). record y { accesses = k }) same

pub returns-then-task-due-clause-due : goal.returns-then-task-due-clause-due
returns-then-task-due-clause-due g c =
    let s = c.args.context.now in
    let n = c.args.task.now.steps in
    let one : n ≡ n - 1 + 1 = omega (arith, c.requires.some) in
    let other : n ≡ next_due s.period (n - 1) → ⊥ =
    λ e. absurd (omega (
      arith,
      e,
      c.if-task-due.true,
      c.requires.due,
      ap
          (λ (t : TaskState). t.steps) c.task.view_is,
    )) in
    c.requires.due ∙ due_stays s.period (n - 1) n one other

-- one is
pub returns-clause-whole : goal.returns-clause-whole
returns-clause-whole g c =
    let s = c.args.context.now in
    let y = c.args.hart.now in
    let n = c.args.task.now.steps in
    let one : n ≡ n - 1 + 1 = omega (arith, c.requires.some) in
    let at : n ≡ next_due s.period (n - 1) =
    omega (
      arith,
      c.if-task-due.false,
      c.requires.due,
      ap (λ (t : TaskState). t.steps)
          c.task.view_is,
    ) in
    let now : is_due s.period n ≡ true = due_now s.period (n - 1) n one c.requires.steps at in
    subst (λ (bytes : List ℕ). OnOk c.write_sample.result
    (g.K.Sink.gained c.args.sink.now bytes c.write_sample.new.sink))
    (ap (λ (t : TaskState). spelling s.layout (sample_by s y.core y.unit.stack t.steps))
    c.task.view_is ∙ sym (due_spelled s (state_on y c.args.task.now) now))
    c.write_sample.ensures.whole

pub returns-clause-part : goal.returns-clause-part
returns-clause-part g c =
    let s = c.args.context.now in
    let y = c.args.hart.now in
    let n = c.args.task.now.steps in
    let one : n ≡ n - 1 + 1 = omega (arith, c.requires.some) in
    let at : n ≡ next_due s.period (n - 1) =
    omega (
      arith,
      c.if-task-due.false,
      c.requires.due,
      ap (λ (t : TaskState). t.steps)
          c.task.view_is,
    ) in
    let now : is_due s.period n ≡ true = due_now s.period (n - 1) n one c.requires.steps at in
    subst (λ (bytes : List ℕ). OnErr c.write_sample.result
    (GainsPart g.K.Sink.gained c.args.sink.now c.write_sample.new.sink bytes))
    (ap (λ (t : TaskState). spelling s.layout (sample_by s y.core y.unit.stack t.steps))
    c.task.view_is ∙ sym (due_spelled s (state_on y c.args.task.now) now))
    c.write_sample.ensures.part

pub returns-clause-hart : goal.returns-clause-hart
returns-clause-hart g c =
    let s = c.args.context.now in
    let y = c.args.hart.now in
    let p = state_on y c.args.task.now in
    let n = c.args.task.now.steps in
    let one : n ≡ n - 1 + 1 = omega (arith, c.requires.some) in
    let at : n ≡ next_due s.period (n - 1) =
    omega (
      arith,
      c.if-task-due.false,
      c.requires.due,
      ap (λ (t : TaskState). t.steps)
          c.task.view_is,
    ) in
    let now : is_due s.period n ≡ true = due_now s.period (n - 1) n one c.requires.steps at in
    c.write_sample.ensures.hart ∙ ap (λ (k : ℕ). record y { accesses = y.accesses + k })
    (sym (sample_paid s p now))
