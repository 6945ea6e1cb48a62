use Rattle.std.proofs.Common.{◌≡◌, ℕ, ◌<◌, ◌≤◌, List, [], ◌∷◌, ◌++◌, length, take}
use Rattle.std.proofs.Common.{sym, ap, subst, ◌∙◌, arith, length-append, append_assoc}
use Rattle.std.specs.List.{All}
use Rattle.std.proofs.lemmas.List.{take_more, length-take-le}
use Rattle.std.proofs.lemmas.List.Elements.{All-push}
use Rattle.replay_engine.specs.Engine.{HasWholeArea}
use Rattle.sched_text.specs.declared.schedule.TaskLine.{TaskLine}
use Rattle.replay_engine.specs.Tasks.{TaskState}
use Rattle.replay_engine.specs.Start.{fresh_tasks}
use Rattle.replay_engine.proofs.FirstLaws.{firsts_more, length-fresh_tasks}
use Rattle.replay_engine.proofs.starting.first_tasks.Goals as goal

pub bounds-lines-i : goal.bounds-lines-i
bounds-lines-i c =
    let inv = c.loop-mem.invariant in
    omega (
      arith,
      inv.count,
      ap length inv.split,
      length-append c.loop-mem.yielded
          c.loop-mem.mem-iterator.rest.items,
      ap length c.in-Some.ensures.steps.0,
      c.requires.mems,
      ap
          length c.items-lines.ensures,
    )

pub invariant_of-result : goal.invariant_of-result
invariant_of-result c =
    let inv = c.loop-mem.invariant in
    let lines = c.items-lines.result.now in
    let within : c.loop-mem.i ≤ length lines =
    omega (
      arith,
      inv.count,
      ap length inv.split,
      length-append c.loop-mem.yielded
          c.loop-mem.mem-iterator.rest.items,
      c.requires.mems,
      ap length c.items-lines.ensures,
    ) in
    let same : length (take c.loop-mem.i lines)
    ≡ length c.loop-mem.yielded = length-take-le c.loop-mem.i lines within ∙ inv.count in (
      omega (
        arith,
        ap length inv.made,
        length-fresh_tasks (take c.loop-mem.i lines)
            c.loop-mem.yielded same,
        length-take-le c.loop-mem.i lines within,
        within,
        c.requires.few,
        ap length c.items-lines.ensures,
      ),
      inv.whole,
    )

pub loop-mem-preserved : goal.loop-mem-preserved
loop-mem-preserved c =
    let inv = c.loop-mem.invariant in
    let lines = c.items-lines.result.now in
    let i = c.loop-mem.i in
    let ms = c.loop-mem.yielded in
    let m = c.in-Some.mem in
    let within : i < length lines =
    omega (
      arith,
      inv.count,
      ap length inv.split,
      length-append ms
          c.loop-mem.mem-iterator.rest.items,
      ap length c.in-Some.ensures.steps.0,
      c.requires.mems,
      ap
          length c.items-lines.ensures,
    ) in
    let same : length (take i lines) ≡ length ms = length-take-le i lines (omega (arith, within))
    ∙ inv.count in
    record {
      made = c.in_ok-push.ensures.items ∙ ap
          (λ (xs : List TaskState). xs ++ c.first_task.result ∷ []) inv.made
          ∙ ap (λ (x : TaskState). fresh_tasks (take i lines) ms ++ x ∷ [])
          c.first_task.ensures.task
          ∙ sym (firsts_more (take i lines) ms _ m same)
          ∙ ap (λ (ls : List TaskLine). fresh_tasks ls (ms ++ m ∷ []))
          (sym (take_more lines i _ within));
      whole =
          subst (All HasWholeArea) (sym c.in_ok-push.ensures.items)
          (All-push HasWholeArea c.loop-mem.list.items c.first_task.result inv.whole
          c.first_task.ensures.whole);
      count = omega (arith, inv.count, length-append ms (m ∷ []));
      split = inv.split ∙ ap (λ (xs : List (List ℕ)). ms ++ xs) c.in-Some.ensures.steps.0
          ∙ sym (append_assoc ms (m ∷ []) c.next.new.self.rest.items);
    }
