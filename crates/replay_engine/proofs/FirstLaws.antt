use Rattle.std.proofs.Common.{◌≡◌, refl, ap, ℕ, List, [], ◌∷◌, ◌++◌}
use Rattle.std.proofs.Common.{length, arith}
use Rattle.sched_text.specs.declared.schedule.TaskLine.{TaskLine}
use Rattle.replay_engine.specs.Tasks.{TaskState}
use Rattle.replay_engine.specs.Start.{fresh_task, fresh_tasks}

pub firsts_more : (ls : List TaskLine) (ms : List (List ℕ)) (l : TaskLine) (m : List ℕ) → length ls
    ≡ length ms → fresh_tasks (ls ++ l ∷ []) (ms ++ m ∷ [])
    ≡ fresh_tasks ls ms ++ fresh_task l m ∷ []
firsts_more [] [] l m e = refl
firsts_more [] (y ∷ ys) l m e = absurd (omega (arith, e))
firsts_more (x ∷ xs) [] l m e = absurd (omega (arith, e))
firsts_more (x ∷ xs) (y ∷ ys) l m e =
    ap (λ (zs : List TaskState). fresh_task x y ∷ zs) (firsts_more xs ys l m (omega (arith, e)))

pub length-fresh_tasks : (ls : List TaskLine) (ms : List (List ℕ)) → length ls ≡ length ms →
    length (fresh_tasks ls ms) ≡ length ls
length-fresh_tasks [] [] e = refl
length-fresh_tasks [] (y ∷ ys) e = absurd (omega (arith, e))
length-fresh_tasks (x ∷ xs) [] e = absurd (omega (arith, e))
length-fresh_tasks (x ∷ xs) (y ∷ ys) e = omega (arith, length-fresh_tasks xs ys (omega (arith, e)))
