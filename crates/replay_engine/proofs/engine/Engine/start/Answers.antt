use Rattle.std.proofs.Common.{◌≡◌, ℕ, List, [], false, length, sym, ap, ◌∙◌, subst}
use Rattle.std.specs.List.{All}
use Rattle.perf_sample.specs.Layout.{LayoutWords}
use Rattle.rv_hart.specs.Hart.{fresh_harts}
use Rattle.replay_engine.specs.Counts.{CountsWithin}
use Rattle.replay_engine.specs.declared.plan.TaskPlan.{TaskPlan}
use Rattle.replay_engine.specs.Engine.{IsEngine, HasWholeArea}
use Rattle.replay_engine.specs.Stands.{StandsFor}
use Rattle.replay_engine.specs.Start.{fresh_tasks, plan_of}
use Rattle.replay_engine.specs.Tasks.{TaskState, PlacesAgree, present_states}
use Rattle.replay_engine.specs.View.{Plan, view_of}
use Rattle.replay_engine.proofs.FirstLaws.{length-fresh_tasks}
use Rattle.replay_engine.proofs.HeaderLaws.{header_irqs}
use Rattle.replay_engine.proofs.StartLaws.{as_many, length_task_plans, started_whole, started_places}
use Rattle.replay_engine.proofs.StartLaws.{started_facts, within_none, lone_firsts}
use Rattle.replay_engine.proofs.engine.Engine.start.Goals as goal

pub task_plans_of-requires-clause-irqs : goal.task_plans_of-requires-clause-irqs
task_plans_of-requires-clause-irqs c =
    let h = c.args.header in
    header_irqs (length h.tasks) h.irqs c.requires.header.irqs c.requires.header.order

pub first_tasks-requires-clause-mems : goal.first_tasks-requires-clause-mems
first_tasks-requires-clause-mems c = as_many c.args.header.tasks c.args.mems c.requires.mems

pub invariant_of-result : goal.invariant_of-result
invariant_of-result c =
    let h = c.args.header in
    let plan : Plan = record {
      harts = h.harts;
      layout = c.layout_of-layout.result;
      tasks =
          c.in_ok-plans.plans.items;
    } in
    let same : plan ≡ plan_of h =
    ap (λ (l : LayoutWords). record {
      harts = h.harts;
      layout = l;
      tasks = c.in_ok-plans.plans.items;
    }) c.layout_of-layout.ensures
    ∙ ap (λ (os : List TaskPlan). record {
      harts = h.harts;
      layout = record { sample_type = h.layout; branch = h.branch };
      tasks = os;
    }) c.in_ok-plans.ensures in
    subst (λ (p : Plan). IsEngine (record {
      plan = p;
      tasks = c.in_ok-tasks.tasks;
      broken = false;
    })) (sym same)
    (subst (λ (ts : List TaskState). IsEngine (record {
      plan = plan_of h;
      tasks = ts;
      broken = false;
    })) (sym c.in_ok-tasks.ensures)
    (started_facts h c.args.mems c.requires.header c.requires.mems
    (subst (All HasWholeArea) c.in_ok-tasks.ensures c.facts.ensures)))

pub returns-clause-stands : goal.returns-clause-stands
returns-clause-stands c =
    let h = c.args.header in
    let plan : Plan = record {
      harts = h.harts;
      layout = c.layout_of-layout.result;
      tasks =
          c.in_ok-plans.plans.items;
    } in
    let size : length c.in_ok-plans.plans.items ≡ length (fresh_tasks h.tasks c.args.mems) =
    ap length c.in_ok-plans.ensures ∙ length_task_plans 0 h.tasks h.irqs
    ∙ sym (length-fresh_tasks h.tasks c.args.mems
    (sym (as_many h.tasks c.args.mems c.requires.mems))) in
    subst (λ (ts : List TaskState). StandsFor plan (present_states ts fresh_harts)
    [] ts fresh_harts) (sym c.in_ok-tasks.ensures)
    (started_whole plan h.tasks c.args.mems size)

pub returns-clause-places : goal.returns-clause-places
returns-clause-places c =
    let h = c.args.header in
    let plan : Plan = record {
      harts = h.harts;
      layout = c.layout_of-layout.result;
      tasks =
          c.in_ok-plans.plans.items;
    } in
    let size : length c.in_ok-plans.plans.items ≡ length (fresh_tasks h.tasks c.args.mems) =
    ap length c.in_ok-plans.ensures ∙ length_task_plans 0 h.tasks h.irqs
    ∙ sym (length-fresh_tasks h.tasks c.args.mems
    (sym (as_many h.tasks c.args.mems c.requires.mems))) in
    subst (λ (ts : List TaskState). PlacesAgree ts fresh_harts) (sym c.in_ok-tasks.ensures)
    (started_places plan h.tasks c.args.mems size)

pub returns-clause-counts : goal.returns-clause-counts
returns-clause-counts c =
    subst (λ (ts : List TaskState). CountsWithin 0 0 0 (view_of ts fresh_harts))
    (sym c.in_ok-tasks.ensures) (within_none c.args.header.tasks c.args.mems)

pub returns-clause-lone : goal.returns-clause-lone
returns-clause-lone c images are =
    let h = c.args.header in
    ap (λ (ts : List TaskState). present_states ts fresh_harts) c.in_ok-tasks.ensures
    ∙ ap (λ (ms : List (List ℕ)). present_states (fresh_tasks h.tasks ms) fresh_harts) are
    ∙ lone_firsts 0 h.tasks images h.irqs fresh_harts
