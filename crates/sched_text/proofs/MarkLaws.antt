-- The marks of the tasks.
use Rattle.std.proofs.Common.{◌≡◌, ℕ, ◌<◌, ◌≤◌, ◌∙◌, if◌then◌else◌, cond, nat_eq, nat_le, Bool, true, false, List, [], ◌∷◌, ◌++◌, length, replicate, Option, None, Some, refl, sym, subst, append-nil, append_assoc, length-append, arith}
use Rattle.std.specs.List.{fold}
use Rattle.std.proofs.lemmas.Bool.{false≢true, true≢false, lt-ltb}
use Rattle.std.proofs.lemmas.List.Sums.{fold-append}
use Rattle.std.proofs.lemmas.List.{get_or-replicate}
use Rattle.std.proofs.lemmas.List.Elements.{All-replicate, All-push, All-nil}
use Rattle.std.proofs.lemmas.List.Sums.{sum_by-le}
use Rattle.sched_text.specs.declared.irqs.Mark.{Mark}
use Rattle.sched_text.specs.declared.schedule.IrqLine.{IrqLine}
use Rattle.sched_text.specs.Irqs.{lines_of_task, last, order_refusal, irq_refusal, follow_on, AllFollow, IsIrq}
use Rattle.sched_text.specs.Marks.{no_mark, mark_with, note, mark_of, mark_refusal, Marked}
use Rattle.sched_text.specs.declared.faults.Reason.TheVariants as reason
use Rattle.sched_text.specs.Rows.{IsTask}
use Rattle.sched_text.specs.Progress.{Sound, start}
use Rattle.sched_text.specs.declared.progress.Progress.{Progress}
use Rattle.sched_text.specs.declared.progress.Place.TheVariants as place

-- without irq lines each task has the first mark
pub marked_none : Marked (replicate 64 no_mark) []
marked_none = record {
  tasks = refl;
  each = λ task within. get_or-replicate 64 task no_mark no_mark within;
  few = All-replicate (λ m. m.count ≤ 1024) 64 no_mark (omega arith);
  all = refl;
}

-- the irq lines of all tasks together
pub marked_few : (marks : List Mark) (irqs : List IrqLine) → Marked marks irqs → length irqs ≤ 65536
marked_few marks irqs m = omega (arith, m.tasks, m.all, sum_by-le (λ m. m.count) 1024 marks m.few)

-- a mark that tells how many lines there are, and the last
abbrev TellsLast : Mark → Option IrqLine → Type 0
TellsLast m None = m.count ≡ 0
TellsLast m (Some x) = (0 < m.count) × (m.step ≡ x.step) × (m.cause ≡ x.cause)

abbrev Tells : Mark → List IrqLine → Type 0
Tells m lines = (m.count ≡ length lines) × TellsLast m (last lines)

tells_noted : (m : Mark) (lines : List IrqLine) (x : IrqLine) → Tells m lines → Tells (mark_with m x) (lines ++ x ∷ [])
tells_noted m lines x t = (
  omega (arith, t.0, length-append lines (x ∷ [])),
  rw (fold-append (λ _ irq. Some irq) None lines (x ∷ [])) (omega arith, refl, refl),
)

-- one line more, of this task or of another
told_by : (b : Bool) (task : ℕ) (x : IrqLine) (irqs lines : List IrqLine) (m : Mark) → Tells m lines
    → ((lines' : List IrqLine) (m' : Mark) → Tells m' lines' → Tells (fold (note task) m' irqs) (lines' ++ lines_of_task task irqs))
    → Tells (fold (note task) (if b then mark_with m x else m) irqs) (lines ++ cond b (x ∷ lines_of_task task irqs) (lines_of_task task irqs))
told_by true task x irqs lines m t next =
    subst (Tells (fold (note task) (mark_with m x) irqs)) (append_assoc lines (x ∷ []) (lines_of_task task irqs)) (next (lines ++ x ∷ []) (mark_with m x) (tells_noted m lines x t))
told_by false task x irqs lines m t next = next lines m t

told : (task : ℕ) (irqs lines : List IrqLine) (m : Mark) → Tells m lines → Tells (fold (note task) m irqs) (lines ++ lines_of_task task irqs)
told task [] lines m t = subst (Tells m) (sym (append-nil lines)) t
told task (x ∷ irqs) lines m t = told_by (nat_eq x.task task) task x irqs lines m t (λ lines' m' t'. told task irqs lines' m' t')

by_last : (m : Mark) (n : ℕ) (before : Option IrqLine) (x : IrqLine) → m.count ≡ n → TellsLast m before
    → mark_refusal m x ≡ (if nat_le 1024 n then Some reason.TooMany else order_refusal before x)
by_last m n None x e t = let none : n ≡ 0 = sym e ∙ t in rw (e, none) refl
by_last m n (Some y) x e t = rw (lt-ltb 0 m.count t.0, t.1, t.2, e) refl

-- the mark of a task refuses what its lines refuse
pub mark_refuses : (irqs : List IrqLine) (x : IrqLine) → mark_refusal (mark_of x.task irqs) x ≡ irq_refusal irqs x
mark_refuses irqs x =
    let t = told x.task irqs [] no_mark (refl, refl) in by_last (mark_of x.task irqs) (length (lines_of_task x.task irqs)) (last (lines_of_task x.task irqs)) x t.0 t.1

push_on : (before irqs : List IrqLine) (x : IrqLine) → follow_on before irqs → irq_refusal (before ++ irqs) x ≡ None → follow_on before (irqs ++ x ∷ [])
unfolding follow_on
push_on before [] x all next = (subst (λ (l : List IrqLine). irq_refusal l x ≡ None) (append-nil before) next, tt)
push_on before (y ∷ irqs) x all next =
    (all.0, push_on (before ++ y ∷ []) irqs x all.1 (subst (λ (l : List IrqLine). irq_refusal l x ≡ None) (sym (append_assoc before (y ∷ []) irqs)) next))

-- a line that may follow those that are there is added
pub follow_push : (irqs : List IrqLine) (x : IrqLine) → AllFollow irqs → irq_refusal irqs x ≡ None → AllFollow (irqs ++ x ∷ [])
follow_push irqs x all next = push_on [] irqs x all next

pub start_sound : Sound start
unfolding follow_on
start_sound = record {
  one_hart = omega arith;
  harts = omega arith;
  layout = refl;
  branch = refl;
  few = omega arith;
  tasks = All-nil IsTask;
  irqs = All-nil (IsIrq 0);
  order = tt;
  some = λ e. absurd (false≢true e);
  early = λ _. refl;
}

-- one more irq line
pub irq_sound : (p : Progress) (irqs : List IrqLine) (x : IrqLine) → Sound p → irqs ≡ p.irqs ++ x ∷ [] → 0 < length p.tasks → IsIrq (length p.tasks) x → irq_refusal p.irqs x ≡ None
    → Sound (record p { place = place.Irqs; irqs = irqs })
irq_sound p irqs x s e some fits next = record {
  one_hart = s.one_hart;
  harts = s.harts;
  layout = s.layout;
  branch = s.branch;
  few = s.few;
  tasks = s.tasks;
  irqs = rw e (All-push (IsIrq (length p.tasks)) p.irqs x s.irqs fits);
  order = rw e (follow_push p.irqs x s.order next);
  some = λ _. some;
  early = λ never. absurd (true≢false never);
}
