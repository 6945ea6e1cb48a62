-- The irq lines of a header that may follow one another: those of each task rise.
use Rattle.std.proofs.Common.{◌≡◌, inl, inr, refl, sym, ap, subst, ◌∙◌, ℕ, suc}
use Rattle.std.proofs.Common.{◌<◌, ◌≤◌, length-append, List, [], ◌∷◌, ◌++◌, length, map}
use Rattle.std.proofs.Common.{nat_eq, nat_lt, nat_le, Bool, true, ◌||◌, cond}
use Rattle.std.proofs.Common.{if◌then◌else◌, Option, Some, None, append-nil, append_assoc}
use Rattle.std.proofs.Common.{arith}
use Rattle.std.specs.Prelude.{All, IsTrue}
use Rattle.std.specs.List.{fold, list_any}
use Rattle.std.proofs.lemmas.Bool.{cases_Bool, true≢false}
use Rattle.std.proofs.lemmas.Option.{none-some}
use Rattle.std.proofs.lemmas.List.Elements.{All-nil, All-push, All-append, All-head, All-tail}
use Rattle.std.proofs.lemmas.List.Elements.{filter-append}
use Rattle.guest_modes.specs.declared.targets.Trap.TheVariants.{Interrupt}
use Rattle.guest_modes.specs.Traps.{is_cause as is_trap_cause}
use Rattle.rv_hart.specs.Task.{Irq, AreInterrupts}
use Rattle.sched_text.specs.declared.schedule.IrqLine.{IrqLine}
use Rattle.sched_text.specs.declared.faults.Reason.TheVariants as reason
use Rattle.sched_text.specs.Irqs.{lines_of_task, last, is_early, order_refusal, refusal_after}
use Rattle.sched_text.specs.Irqs.{irq_refusal, follow_on, AllFollow}
use Rattle.sched_text.specs.Irqs.{IsIrq as IsLine}
use Rattle.sched_text.specs.Rows.{interrupt_numbers, is_cause}
use Rattle.replay_engine.specs.Engine.{IsEarlyEnough}
use Rattle.replay_engine.specs.Irqs.{IsIrq, IsAbove, IsNext, last_from, CanFollow, AreIrqs}
use Rattle.replay_engine.specs.Start.{interrupt_of, irqs_of}
use Rattle.replay_engine.proofs.IrqLaws.{irqs_more, no_irqs}

-- none refuses, so the count is below 1,024 and the line isn't early
not_full : (n : ℕ) (before : Option IrqLine) (x : IrqLine) →
    (if nat_le 1024 n then Some reason.TooMany else order_refusal before x) ≡ None → (n < 1024)
    × (order_refusal before x ≡ None)
not_full n before x e = elim (cases_Bool (nat_le 1024 n)) [
  | inl full ↦ absurd (none-some reason.TooMany (sym e
      ∙ ap (λ (b : Bool). if b then Some reason.TooMany else order_refusal before x) full))
  | inr less ↦ (
    grind (arith, less),
    sym
        (ap (λ (b : Bool). if b then Some reason.TooMany else order_refusal before x) less) ∙ e,
  )
]

not_early : (y x : IrqLine) → order_refusal (Some y) x ≡ None → IsAbove (interrupt_of y) (interrupt_of x)
not_early y x e = elim (cases_Bool (is_early y x)) [
  | inl early ↦ absurd (none-some reason.IrqOrder (sym e
      ∙ ap (λ (b : Bool). if b then Some reason.IrqOrder else None) early))
  | inr late ↦ elim (cases_Bool (nat_lt y.step x.step)) [
    | inl below ↦ inl (grind (arith, below))
    | inr not ↦ inr (grind (arith, late, not), grind (arith, late, not))
  ]
]

abbrev then_irq : Option IrqLine → Option Irq
then_irq None = None
then_irq (Some y) = Some (interrupt_of y)

next_of : (before : Option IrqLine) (x : IrqLine) → order_refusal before x ≡ None →
    IsNext (then_irq before) (interrupt_of x)
next_of None x e = tt
next_of (Some y) x e = not_early y x e

-- the last of the lines, as the last of what they are
last_irq : (before : Option IrqLine) (lines : List IrqLine) →
    last_from (then_irq before) (map interrupt_of lines)
    ≡ then_irq (fold (λ _ irq. Some irq) before lines)
last_irq before [] = refl
last_irq before (x ∷ xs) = last_irq (Some x) xs

pub length_map : {A B : Type 0} (f : A → B) (xs : List A) → length (map f xs) ≡ length xs
length_map f [] = refl
length_map f (x ∷ xs) = ap suc (length_map f xs)

pub map_append : {A B : Type 0} (f : A → B) (xs ys : List A) → map f (xs ++ ys)
    ≡ map f xs ++ map f ys
map_append f [] ys = refl
map_append f (x ∷ xs) ys = ap (λ (zs : List _). f x ∷ zs) (map_append f xs ys)

-- a line that none refuses can follow those of its task
follows : (lines : List IrqLine) (x : IrqLine) → refusal_after lines x ≡ None →
    CanFollow (map interrupt_of lines) (interrupt_of x)
follows lines x e =
    subst (λ (b : Option Irq). IsNext b (interrupt_of x)) (sym (last_irq None lines))
    (next_of (last lines) x (not_full (length lines) (last lines) x e).1)

same_number : (a b : ℕ) → nat_eq a b ≡ true → a ≡ b
same_number a b e = grind (arith, e)

-- the numbers that an irq line may have are those of interrupts
abbrev AreInterruptNumbers : List ℕ → Type 0
AreInterruptNumbers [] = Unit {0}
AreInterruptNumbers (n ∷ ns) = IsTrue (is_trap_cause (Interrupt n)) × AreInterruptNumbers ns

one_of : (c : ℕ) (ns : List ℕ) → AreInterruptNumbers ns → list_any (λ n. nat_eq n c) ns ≡ true →
    IsTrue (is_trap_cause (Interrupt c))
one_of c [] are is = absurd (true≢false (sym is))
one_of c (n ∷ ns) are is = elim (cases_Bool (nat_eq n c)) [
  | inl same ↦ subst (λ (k : ℕ). IsTrue (is_trap_cause (Interrupt k))) (same_number n c same) are.0
  | inr other ↦ one_of c ns are.1 (sym (ap (λ (b : Bool). b || list_any (λ n. nat_eq n c) ns) other)
      ∙ is)
]

numbers_are : AreInterruptNumbers interrupt_numbers
numbers_are = (refl, (refl, (refl, (refl, (refl, (refl, (refl, (refl, (refl, (refl, tt))))))))))

is_interrupt : (c : ℕ) → is_cause c ≡ true → IsTrue (is_trap_cause (Interrupt c))
is_interrupt c is = one_of c interrupt_numbers numbers_are is

is_irq : (n : ℕ) (x : IrqLine) → IsLine n x → IsIrq (interrupt_of x)
is_irq n x is = is_interrupt x.cause is.cause

-- those of a task, of lines and others behind them
pub irqs_append : (t : ℕ) (before rest : List IrqLine) → irqs_of t (before ++ rest)
    ≡ irqs_of t before ++ irqs_of t rest
irqs_append t before rest =
    ap (map interrupt_of) (filter-append (λ (irq : IrqLine). nat_eq irq.task t) before rest)
    ∙ map_append interrupt_of (lines_of_task t before) (lines_of_task t rest)

-- one line more, of this task or of another
more_by : (n t : ℕ) (before : List IrqLine) (x : IrqLine) → IsLine n x → irq_refusal before x
    ≡ None → AreIrqs (irqs_of t before) → AreIrqs (irqs_of t (before ++ x ∷ []))
more_by n t before x is e are = elim (cases_Bool (nat_eq x.task t)) [
  | inl same ↦
      let at : x.task ≡ t = grind (arith, same) in
      subst AreIrqs (sym (irqs_append t before (x ∷ [])
      ∙ ap (λ (b : Bool). irqs_of t before ++ map interrupt_of (cond b (x ∷ []) [])) same))
      (irqs_more (irqs_of t before) (interrupt_of x) are (is_irq n x is)
      (follows (lines_of_task t before) x
      (subst (λ (u : ℕ). refusal_after (lines_of_task u before) x ≡ None) at e)))
  | inr other ↦
      subst AreIrqs (sym (irqs_append t before (x ∷ [])
      ∙ ap (λ (b : Bool). irqs_of t before ++ map interrupt_of (cond b (x ∷ []) [])) other
      ∙ append-nil (irqs_of t before))) are
]

all_of : (n t : ℕ) (before rest : List IrqLine) → All (IsLine n) rest → follow_on before rest →
    AreIrqs (irqs_of t before) → AreIrqs (irqs_of t (before ++ rest))
unfolding follow_on
all_of n t before [] each follow are =
    subst (λ (ls : List IrqLine). AreIrqs (irqs_of t ls)) (sym (append-nil before)) are
all_of n t before (x ∷ rest) each follow are =
    subst (λ (ls : List IrqLine). AreIrqs (irqs_of t ls)) (append_assoc before (x ∷ []) rest)
    (all_of n t (before ++ x ∷ []) rest (All-tail (IsLine n) x rest each) follow.1
    (more_by n t before x (All-head (IsLine n) x rest each) follow.0 are))

-- no task has more than 1,024 of them
few_by : (t : ℕ) (before : List IrqLine) (x : IrqLine) → irq_refusal before x ≡ None →
    length (irqs_of t before) ≤ 1024 → length (irqs_of t (before ++ x ∷ [])) ≤ 1024
few_by t before x e few = elim (cases_Bool (nat_eq x.task t)) [
  | inl same ↦
      let at : x.task ≡ t = grind (arith, same) in
      let lines = lines_of_task t before in
      let less : length lines < 1024 = (not_full (length lines) (last lines) x
      (subst (λ (u : ℕ). refusal_after (lines_of_task u before) x ≡ None) at e)).0 in
      let are : irqs_of t (before ++ x ∷ []) ≡ irqs_of t before ++ interrupt_of x ∷ [] =
      irqs_append t before (x ∷ [])
      ∙ ap (λ (b : Bool). irqs_of t before ++ map interrupt_of (cond b (x ∷ []) [])) same in
      omega (
        arith,
        less,
        length_map interrupt_of lines,
        ap length are,
        length-append (irqs_of t before) (interrupt_of x ∷ []),
      )
  | inr other ↦
      let are : irqs_of t (before ++ x ∷ []) ≡ irqs_of t before =
      irqs_append t before (x ∷ [])
      ∙ ap (λ (b : Bool). irqs_of t before ++ map interrupt_of (cond b (x ∷ []) [])) other
      ∙ append-nil (irqs_of t before) in
      omega (arith, few, ap length are)
]

few_from : (t : ℕ) (before rest : List IrqLine) → follow_on before rest →
    length (irqs_of t before) ≤ 1024 → length (irqs_of t (before ++ rest)) ≤ 1024
unfolding follow_on
few_from t before [] follow few =
    subst (λ (ls : List IrqLine). length (irqs_of t ls) ≤ 1024) (sym (append-nil before)) few
few_from t before (x ∷ rest) follow few =
    subst (λ (ls : List IrqLine). length (irqs_of t ls) ≤ 1024) (append_assoc before (x ∷ []) rest)
    (few_from t (before ++ x ∷ []) rest follow.1 (few_by t before x follow.0 few))

pub header_irqs_few : (lines : List IrqLine) → AllFollow lines → (t : ℕ) →
    length (irqs_of t lines) ≤ 1024
header_irqs_few lines order t = few_from t [] lines order (omega arith)

-- and each becomes pending at a step that it may name
early_one : (n t : ℕ) (x : IrqLine) → IsLine n x → All IsEarlyEnough (irqs_of t (x ∷ []))
early_one n t x is = elim (cases_Bool (nat_eq x.task t)) [
  | inl same ↦ rw same (All-push IsEarlyEnough [] (interrupt_of x) (All-nil IsEarlyEnough) is.step)
  | inr other ↦ rw other (All-nil IsEarlyEnough)
]

pub header_irqs_early : (n : ℕ) (lines : List IrqLine) → All (IsLine n) lines → (t : ℕ) →
    All IsEarlyEnough (irqs_of t lines)
header_irqs_early n [] each t = All-nil IsEarlyEnough
header_irqs_early n (x ∷ xs) each t =
    subst (All IsEarlyEnough) (sym (irqs_append t (x ∷ []) xs))
    (All-append IsEarlyEnough (irqs_of t (x ∷ [])) (irqs_of t xs)
    (early_one n t x (All-head (IsLine n) x xs each))
    (header_irqs_early n xs (All-tail (IsLine n) x xs each) t))

-- the irq lines of each task of a header are those of a task
pub header_irqs : (n : ℕ) (lines : List IrqLine) → All (IsLine n) lines → AllFollow lines →
    (t : ℕ) → AreIrqs (irqs_of t lines)
header_irqs n lines each order t = all_of n t [] lines each order no_irqs

-- interrupts one after another
pub are_interrupts : (irqs : List Irq) → All IsIrq irqs → AreInterrupts irqs
are_interrupts [] each = tt
are_interrupts (x ∷ xs) each =
    (All-head IsIrq x xs each, are_interrupts xs (All-tail IsIrq x xs each))
