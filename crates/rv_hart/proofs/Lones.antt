-- The lone run of a task: its record buffer and its history, and its state as so many steps from the first.
use Rattle.std.proofs.Common.{◌≡◌, refl, sym, ◌∙◌, ap, ℕ, zero, suc, ◌+◌, add_assoc, arith, fold}
use Rattle.std.proofs.Math.Nat.{zero-add}
use Rattle.std.proofs.lemmas.List.Sums.{fold-append}
use Rattle.ctr_csrs.specs.declared.depth.Depth.TheVariants.{D16}
use Rattle.ctr_buffer.specs.Stack.{Stack, empty}
use Rattle.ctr_buffer.specs.History.{after, stack_of}
use Rattle.ctr_buffer.specs.HistoryLaws.{depth_follows, pointer_follows, empty_is}
use Rattle.rv_hart.specs.Step.{next, events_of}
use Rattle.rv_hart.specs.Task.{Task, causes}
use Rattle.rv_hart.specs.Lone.{RunState, FollowsHistory, HaveSameState, StepsJoin, RunGoesOn, run_next, first_state, first_run, lone_run, after_steps}

-- the depth and the pointer follow from the stack
pub follows_by : (t : RunState) → t.state.unit.stack ≡ stack_of t.history → FollowsHistory t
follows_by t is = record {
  stack = is;
  depth = ap (λ (s : Stack). s.depth) is ∙ depth_follows (empty D16) t.history;
  pointer = ap (λ (s : Stack). s.pointer) is ∙ pointer_follows (empty D16) t.history (empty_is D16);
}

pub next_follows : (pending : ℕ) (t : RunState) → FollowsHistory t → FollowsHistory (run_next pending t)
next_follows pending t is =
    let events = events_of pending t.state in
    follows_by (run_next pending t)
    (ap (λ (s : Stack). fold after s events) is.stack ∙ sym (fold-append after (empty D16) t.history events))

pub lone_follows : (t : Task) (n : ℕ) → FollowsHistory (lone_run t n)
lone_follows t zero = follows_by (first_run t) refl
lone_follows t (suc n) = next_follows (causes t.irqs n) (lone_run t n) (lone_follows t n)

pub same_next : (pending : ℕ) (a b : RunState) → HaveSameState a b → HaveSameState (run_next pending a) (run_next pending b)
same_next pending a b is = ap (next pending) is

pub same_events : (pending : ℕ) (a b : RunState) → HaveSameState a b → events_of pending a.state ≡ events_of pending b.state
same_events pending a b is = ap (events_of pending) is

pub lone_state : (t : Task) (n : ℕ) → (lone_run t n).state ≡ after_steps t.irqs 0 n (first_state t)
lone_state t zero = refl
lone_state t (suc n) =
    ap (next (causes t.irqs n)) (lone_state t n)
    ∙ ap (λ (k : ℕ). next (causes t.irqs k) (after_steps t.irqs 0 n (first_state t))) (sym (zero-add n))

-- m + n steps are n steps after m
pub steps_join : StepsJoin
steps_join irqs before m zero s =
    let none : m + 0 ≡ m = omega arith in
    ap (λ (k : ℕ). after_steps irqs before k s) none
steps_join irqs before m (suc n) s =
    let more : m + suc n ≡ suc (m + n) = omega arith in
    let joined = after_steps irqs (before + m) n (after_steps irqs before m s) in
    ap (λ (k : ℕ). after_steps irqs before k s) more
    ∙ ap (next (causes irqs (before + (m + n)))) (steps_join irqs before m n s)
    ∙ ap (λ (k : ℕ). next (causes irqs k) joined) (sym (add_assoc before m n))

pub run_goes_on : RunGoesOn
run_goes_on t m n =
    let whole = lone_state t (m + n) ∙ steps_join t.irqs 0 m n (first_state t) in
    let from = after_steps t.irqs 0 m (first_state t) in
    whole
    ∙ ap (λ (k : ℕ). after_steps t.irqs k n from) (zero-add m)
    ∙ ap (after_steps t.irqs m n) (sym (lone_state t m))
