-- A schedule is accepted, or one of its lines is refused first.
use Rattle.std.proofs.Common.{◌≡◌, refl, sym, ◌∙◌, ap, subst, ℕ, zero, suc, ◌+◌, ◌-◌, ◌<◌, ◌≤◌, ◌⊎◌}
use Rattle.std.proofs.Common.{inl}
use Rattle.std.proofs.Common.{inr, List, [], ◌∷◌, ◌++◌, Option, Some, None, Result, Ok, Err, Bool}
use Rattle.std.proofs.Common.{true, false}
use Rattle.std.proofs.Common.{if◌then◌else◌, nat_lt, length, arith, add-one, append_assoc}
use Rattle.std.proofs.Common.{append-nil}
use Rattle.std.specs.Bool.{⊤}
use Rattle.std.proofs.lemmas.Bool.{cases_eq, cases_lt, true≢false}
use Rattle.std.proofs.lemmas.Option.{none-some}
use Rattle.sched_text.specs.Lines.{LineCut, Line, Long, Open, line_at}
use Rattle.sched_text.specs.Header.{HasHeader}
use Rattle.sched_text.specs.Rows.{command_of}
use Rattle.sched_text.specs.Commands.{command_at, command_cut, command_row, commands_after, end_at}
use Rattle.sched_text.specs.Commands.{is_end}
use Rattle.sched_text.specs.Commands.{with_command, next_command}
use Rattle.sched_text.specs.Header.{refuse}
use Rattle.sched_text.specs.Text.{images_len, has_end, ImagesBreak, CommandsBreak}
use Rattle.sched_text.specs.Text.{TextBreak}
use Rattle.sched_text.specs.Text.{IsWhole}
use Rattle.sched_text.specs.declared.schedule.Command.{Command}
use Rattle.sched_text.specs.declared.schedule.Command.TheVariants.{Run, Sample as Sampled, Evict}
use Rattle.sched_text.specs.declared.schedule.Command.TheVariants.{End}
use Rattle.sched_text.specs.declared.schedule.Header.{Header}
use Rattle.sched_text.specs.declared.faults.LineFault.{LineFault}
use Rattle.sched_text.specs.declared.faults.Reason.{Reason}
use Rattle.sched_text.specs.declared.faults.Reason.TheVariants as reason
use Rattle.sched_text.proofs.BreakLaws.{behind_images, break_once, not_both}
use Rattle.sched_text.proofs.BreakLaws.{same_commands, same_fault, same_header, same_lines, sooner}
use Rattle.sched_text.proofs.WholeLaws.{after_end, ends_all, no_command, whole_or_broken}
use Rattle.replay_engine.specs.Breaks.{reason_of, AllowedAfter, AreAllowed, ByText}
use Rattle.replay_engine.specs.Breaks.{ByPlace}
use Rattle.replay_engine.specs.Breaks.{CommandRefused, ScheduleBreak, IsAccepted, AcceptedOrBroken}
use Rattle.replay_engine.specs.Outcome.{no_place}
use Rattle.replay_engine.specs.Refusals.{command_refusal}
use Rattle.replay_engine.specs.Stands.{place_after, resident_after}
use Rattle.replay_engine.specs.Start.{plan_of}
use Rattle.replay_engine.specs.View.{Plan}
use Rattle.replay_engine.specs.declared.fault.PerformFault.{PerformFault}
use Rattle.replay_engine.specs.declared.fault.PerformFault.TheVariants.{NoTask, NoHart, NotResident}
use Rattle.replay_engine.specs.declared.fault.PerformFault.TheVariants.{EmptyHart}

same_ok : {A E : Type 0} (r : Result A E) (a b : A) → r ≡ Ok a → r ≡ Ok b → a ≡ b
same_ok r a b p q = cc

not_ok : {A E : Type 0} (r : Result A E) (a : A) (e : E) → r ≡ Err e → r ≡ Ok a → ⊥
not_ok r a e p q = absurd (cc)

-- the commands before the last one
join_back : (cs : List Command) (q : Result (Command × List ℕ) LineFault)
    (y : List Command × List ℕ) → with_command cs q ≡ Ok y →
    (c : Command) × (q ≡ Ok (c, y.1)) × (y.0 ≡ cs ++ c ∷ [])
join_back cs (Ok z) y e =
    let is : (cs ++ z.0 ∷ [], z.1) ≡ y = cc in (
      z.0,
      ap (λ (w : List Command × List ℕ). Ok (z.0, w.1)) is,
      sym (ap (λ (w : List Command × List ℕ). w.0) is),
    )
join_back cs (Err f) y e = absurd (cc)

record LastRead (r : Result (List Command × List ℕ) LineFault) (line k : ℕ)
    (y : List Command × List ℕ) : Type 0 where
  before : List Command × List ℕ
  last : Command
  reads : r ≡ Ok before
  next : command_at line k before.1 ≡ Ok (last, y.1)
  list : y.0 ≡ before.0 ++ last ∷ []

step_back : (r : Result (List Command × List ℕ) LineFault) (line k : ℕ)
    (y : List Command × List ℕ) → next_command line k r ≡ Ok y → LastRead r line k y
step_back (Ok x) line k y e =
    let j = join_back x.0 (command_at line k x.1) y e in
    record { before = x; last = j.0; reads = refl; next = j.1; list = j.2 }
step_back (Err f) line k y e = absurd (cc)

-- commands are allowed with the last of them, and without it
allowed_part : (plan : Plan) (before cs : List Command) (c : Command) →
    AllowedAfter plan before (cs ++ c ∷ []) →
    AllowedAfter plan before cs × (command_refusal plan (before ++ cs) c ≡ None)
allowed_part plan before [] c a =
    (tt, ap (λ (b : List Command). command_refusal plan b c) (append-nil before) ∙ a.0)
allowed_part plan before (d ∷ cs) c a =
    let rest = allowed_part plan (before ++ d ∷ []) cs c a.1 in (
      (a.0, rest.0),
      ap (λ (b : List Command). command_refusal plan b c) (sym (append_assoc before (d ∷ []) cs))
          ∙ rest.1,
    )

allowed_more : (plan : Plan) (before cs : List Command) (c : Command) →
    AllowedAfter plan before cs → command_refusal plan (before ++ cs) c ≡ None →
    AllowedAfter plan before (cs ++ c ∷ [])
allowed_more plan before [] c a e =
    (ap (λ (b : List Command). command_refusal plan b c) (sym (append-nil before)) ∙ e, tt)
allowed_more plan before (d ∷ cs) c a e = (
  a.0,
  allowed_more plan (before ++ d ∷ []) cs c a.1
      (ap (λ (b : List Command). command_refusal plan b c) (append_assoc before (d ∷ []) cs) ∙ e),
)

-- the line after so many commands that are allowed is refused
record BreakAt (p : Header) (base : ℕ) (text : List ℕ) (count : ℕ) (f : LineFault) : Type 0 where
  commands : List Command
  behind : List ℕ
  reads : commands_after count base text ≡ Ok (commands, behind)
  allowed : AreAllowed (plan_of p) commands
  refused : ByText (base + (count + 1)) count commands behind f
      ⊎ ByPlace (plan_of p) (base + (count + 1)) count commands behind f

-- so many commands are allowed, with `end`
record EndAt (p : Header) (base : ℕ) (text : List ℕ) (count : ℕ) : Type 0 where
  commands : List Command
  behind : List ℕ
  reads : commands_after count base text ≡ Ok (commands, behind)
  allowed : AreAllowed (plan_of p) commands
  ends : has_end commands ≡ true

-- no command was refused that another one was performed after
no_place_before : (plan : Plan) (base : ℕ) (t : List ℕ) (n k : ℕ) (x y : List Command × List ℕ)
    (f : LineFault) → commands_after n base t ≡ Ok x →
    ByPlace plan (base + (n + 1)) n x.0 x.1 f → commands_after (suc (n + k)) base t ≡ Ok y →
    AreAllowed plan y.0 → ⊥
unfolding commands_after
no_place_before plan base t n zero x y f reads by more allowed =
    let none : n + zero ≡ n = omega arith in
    let s = step_back (commands_after (n + zero) base t) (base + suc (n + zero)) (n + zero)
    y more in
    let same : s.before ≡ x =
    same_ok (commands_after (n + zero) base t) s.before x s.reads
    (ap (λ (m : ℕ). commands_after m base t) none ∙ reads) in
    let at : base + suc (n + zero) ≡ base + (n + 1) = omega arith in
    let next : command_at (base + (n + 1)) n x.1 ≡ Ok (s.last, y.1) =
    ap (λ (m : ℕ). command_at m n x.1) (sym at)
    ∙ ap (λ (m : ℕ). command_at (base + suc (n + zero)) m x.1) (sym none)
    ∙ ap (λ (z : List Command × List ℕ). command_at (base + suc (n + zero)) (n + zero) z.1)
    (sym same) ∙ s.next in
    let c : by.command ≡ s.last =
    ap (λ (z : Command × List ℕ). z.0)
    (same_ok (command_at (base + (n + 1)) n x.1) (by.command, by.rest) (s.last, y.1) by.reads
    next) in
    let part = allowed_part plan [] s.before.0 s.last (subst (AllowedAfter plan []) s.list allowed)
    in
    none-some by.why
    (sym part.1 ∙ ap (λ (z : List Command × List ℕ). command_refusal plan z.0 s.last) same
    ∙ ap (command_refusal plan x.0) (sym c) ∙ by.refused)
no_place_before plan base t n (suc k) x y f reads by more allowed =
    let sum : n + suc k ≡ suc (n + k) = omega arith in
    let s = step_back (commands_after (n + suc k) base t) (base + suc (n + suc k)) (n + suc k)
    y more in
    let part = allowed_part plan [] s.before.0 s.last (subst (AllowedAfter plan []) s.list allowed)
    in
    no_place_before plan base t n k x s.before f reads by
    (ap (λ (m : ℕ). commands_after m base t) (sym sum) ∙ s.reads) part.0

-- nothing allowed reaches beyond a refused line
none_beyond : (p : Header) (base : ℕ) (t : List ℕ) (n m : ℕ) (f : LineFault)
    (y : List Command × List ℕ) → BreakAt p base t n f → commands_after m base t ≡ Ok y →
    AreAllowed (plan_of p) y.0 → n < m → ⊥
none_beyond p base t n m f y a reads allowed less = elim a.refused [
  | inl text ↦ sooner n m base t (a.commands, a.behind) y f a.reads text.refused reads less
  | inr place ↦
      let is : m ≡ suc (n + (m - n - 1)) = omega (arith, less) in
      no_place_before (plan_of p) base t n (m - n - 1) (a.commands, a.behind) y f a.reads place
      (ap (λ (k : ℕ). commands_after k base t) (sym is) ∙ reads) allowed
]

-- one line is refused in one way
alike : (plan : Plan) (line count : ℕ) (x : List Command × List ℕ) (f g : LineFault) →
    ByText line count x.0 x.1 f ⊎ ByPlace plan line count x.0 x.1 f →
    ByText line count x.0 x.1 g ⊎ ByPlace plan line count x.0 x.1 g → f ≡ g
alike plan line count x f g (inl a) (inl b) =
    same_fault (command_at line count x.1) f g a.refused b.refused
alike plan line count x f g (inl a) (inr b) =
    absurd (not_ok (command_at line count x.1) (b.command, b.rest) f a.refused b.reads)
alike plan line count x f g (inr a) (inl b) =
    absurd (not_ok (command_at line count x.1) (a.command, a.rest) g b.refused a.reads)
alike plan line count x f g (inr a) (inr b) =
    let command : b.command ≡ a.command =
    ap (λ (z : Command × List ℕ). z.0)
    (same_ok (command_at line count x.1) (b.command, b.rest) (a.command, a.rest) b.reads
    a.reads) in
    let other : command_refusal plan x.0 a.command ≡ Some b.why =
    ap (command_refusal plan x.0) (sym command) ∙ b.refused in
    let why : a.why ≡ b.why = cc (a.refused, other) in
    let named : reason_of a.why ≡ Some b.reason = ap reason_of why ∙ b.named in
    let same : a.reason ≡ b.reason = cc (a.named, named) in
    a.fault ∙ ap (λ (r : Reason). record { line = line; reason = r }) same ∙ sym b.fault

one_break : (p : Header) (base : ℕ) (t : List ℕ) (n m : ℕ) (f g : LineFault) →
    BreakAt p base t n f → BreakAt p base t m g → f ≡ g
one_break p base t n m f g a b = elim (cases_eq n m) [
  | inl e ↦
      let there : commands_after m base t ≡ Ok (a.commands, a.behind) =
      ap (λ (k : ℕ). commands_after k base t) (sym e) ∙ a.reads in
      let same : (a.commands, a.behind) ≡ (b.commands, b.behind) =
      same_commands (a.commands, a.behind) (b.commands, b.behind) (commands_after m base t)
      there b.reads in
      alike (plan_of p) (base + (m + 1)) m (b.commands, b.behind) f g
      (subst
      (λ (x : List Command × List ℕ). ByText (base + (m + 1)) m x.0 x.1 f
      ⊎ ByPlace (plan_of p) (base + (m + 1)) m x.0 x.1 f) same
      (subst
      (λ (k : ℕ). ByText (base + (k + 1)) k a.commands a.behind f
      ⊎ ByPlace (plan_of p) (base + (k + 1)) k a.commands a.behind f) e a.refused)) b.refused
  | inr other ↦ elim (cases_lt n m) [
    | inl less ↦ absurd
        (none_beyond p base t n m f (b.commands, b.behind) a b.reads b.allowed less)
    | inr more ↦ absurd
        (none_beyond p base t m n g (a.commands, a.behind) b a.reads a.allowed
        (omega (arith, more, other)))
  ]
]

-- nothing is refused where `end` came
end_here : (p : Header) (base : ℕ) (t : List ℕ) (n : ℕ) (x : List Command × List ℕ)
    (f : LineFault) → commands_after n base t ≡ Ok x → has_end x.0 ≡ true →
    ByText (base + (n + 1)) n x.0 x.1 f ⊎ ByPlace (plan_of p) (base + (n + 1)) n x.0 x.1 f → ⊥
end_here p base t n x f reads ends (inl b) = true≢false (sym ends ∙ b.goes_on)
end_here p base t n x f reads ends (inr b) =
    no_command (base + (n + 1)) n x.1 (b.command, b.rest) (ends_all n base t x reads ends) b.reads

ends_or_breaks : (p : Header) (base : ℕ) (t : List ℕ) (n m : ℕ) (f : LineFault) →
    EndAt p base t n → BreakAt p base t m f → ⊥
ends_or_breaks p base t n m f a b = elim (cases_eq n m) [
  | inl e ↦
      let there : commands_after m base t ≡ Ok (a.commands, a.behind) =
      ap (λ (k : ℕ). commands_after k base t) (sym e) ∙ a.reads in
      let same : (a.commands, a.behind) ≡ (b.commands, b.behind) =
      same_commands (a.commands, a.behind) (b.commands, b.behind) (commands_after m base t)
      there b.reads in
      end_here p base t m (b.commands, b.behind) f b.reads
      (sym (ap (λ (x : List Command × List ℕ). has_end x.0) same) ∙ a.ends) b.refused
  | inr other ↦ elim (cases_lt n m) [
    | inl less ↦ after_end n m base t (a.commands, a.behind) (b.commands, b.behind) a.reads a.ends
        b.reads less
    | inr more ↦ none_beyond p base t m n f (a.commands, a.behind) b a.reads a.allowed
        (omega (arith, more, other))
  ]
]

-- each refusal has a reason
abbrev IsNamed : Option PerformFault → Type 0
IsNamed None = ⊤
IsNamed (Some why) = (r : Reason) × (reason_of why ≡ Some r)

if_named : (b : Bool) (x y : Option PerformFault) → IsNamed x → IsNamed y →
    IsNamed (if b then x else y)
if_named true x y a b = a
if_named false x y a b = b

place_named : (o : Option ℕ) (why : PerformFault) → IsNamed (Some why) →
    IsNamed (no_place (Some o) why)
place_named None why is = is
place_named (Some h) why is = tt

all_named : (plan : Plan) (cs : List Command) (c : Command) → IsNamed (command_refusal plan cs c)
all_named plan cs (Run h t n) =
    if_named (nat_lt t (length plan.tasks)) (if nat_lt h plan.harts then None else Some NoHart)
    (Some NoTask)
    (if_named (nat_lt h plan.harts) None (Some NoHart) tt (reason.NoHart, refl))
    (reason.NoTask, refl)
all_named plan cs (Sampled t) =
    if_named (nat_lt t (length plan.tasks)) (no_place (Some (place_after cs t)) NotResident)
    (Some NoTask) (place_named (place_after cs t) NotResident (reason.NotResident, refl))
    (reason.NoTask, refl)
all_named plan cs (Evict h) =
    if_named (nat_lt h plan.harts) (no_place (Some (resident_after cs h)) EmptyHart) (Some NoHart)
    (place_named (resident_after cs h) EmptyHart (reason.EmptyHart, refl)) (reason.NoHart, refl)
all_named plan cs End = tt

judged : (o : Option PerformFault) → (o ≡ None) ⊎ ((why : PerformFault) × (o ≡ Some why))
judged None = inl refl
judged (Some why) = inr (why, refl)

refused_here : (p : Header) (base : ℕ) (t : List ℕ) (n : ℕ) (x : List Command × List ℕ)
    (z : Command × List ℕ) (why : PerformFault) → commands_after n base t ≡ Ok x →
    AreAllowed (plan_of p) x.0 → command_at (base + suc n) n x.1 ≡ Ok z →
    command_refusal (plan_of p) x.0 z.0 ≡ Some why → (f : LineFault) × BreakAt p base t n f
refused_here p base t n x z why reads allowed next refused =
    let named = subst IsNamed refused (all_named (plan_of p) x.0 z.0) in (
      record { line = base + (n + 1); reason = named.0 },
      record {
        commands = x.0;
        behind = x.1;
        reads = reads;
        allowed = allowed;
        refused = inr (record {
          command = z.0;
          rest = z.1;
          why = why;
          reason = named.0;
          reads = rw (add-one n) next;
          refused = refused;
          named = named.1;
          fault = refl;
        });
      },
    )

-- all commands are allowed, or one of them is refused first
first_refused : (p : Header) (base : ℕ) (t : List ℕ) (n : ℕ) (x : List Command × List ℕ) →
    commands_after n base t ≡ Ok x →
    AreAllowed (plan_of p) x.0 ⊎ ((m : ℕ) × (f : LineFault) × BreakAt p base t m f)
unfolding commands_after
first_refused p base t zero x e =
    let same : ([], t) ≡ x = cc in
    inl (subst (λ (y : List Command × List ℕ). AreAllowed (plan_of p) y.0) same tt)
first_refused p base t (suc n) x e =
    let s = step_back (commands_after n base t) (base + suc n) n x e in
    elim (first_refused p base t n s.before s.reads) [
      | inr found ↦ inr found
      | inl allowed ↦ elim (judged (command_refusal (plan_of p) s.before.0 s.last)) [
        | inl none ↦ inl (subst (AreAllowed (plan_of p)) (sym s.list)
            (allowed_more (plan_of p) [] s.before.0 s.last allowed none))
        | inr why ↦
            let found = refused_here p base t n s.before (s.last, x.1) why.0 s.reads allowed
            s.next why.1 in
            inr (n, found.0, found.1)
      ]
    ]

-- what follows header and images, by any header of the text
refused_at : (t : List ℕ) (l : ℕ) (p : Header) (r : List ℕ) (f : LineFault) → HasHeader t l p r →
    (b : CommandRefused t f) → BreakAt p l (behind_images (p, r)) b.count f
refused_at t l p r f header b =
    let has = b.before.has in
    let here : BreakAt has.progress b.lines (behind_images (has.progress, has.rest)) b.count f =
    record {
      commands = b.commands;
      behind = b.behind;
      reads = has.reads;
      allowed = b.before.allowed;
      refused = b.refused;
    } in
    subst (λ (k : ℕ). BreakAt p k (behind_images (p, r)) b.count f)
    (same_lines t b.lines l has.progress p has.rest r has.header header)
    (subst (λ (h : Header × List ℕ). BreakAt h.0 b.lines (behind_images h) b.count f)
    (same_header t b.lines l has.progress p has.rest r has.header header) here)

refused_of : (t : List ℕ) (l : ℕ) (p : Header) (r : List ℕ) (n : ℕ) (f : LineFault) →
    HasHeader t l p r → images_len p ≤ length r → BreakAt p l (behind_images (p, r)) n f →
    CommandRefused t f
refused_of t l p r n f header images b = record {
  lines = l;
  count = n;
  commands = b.commands;
  behind = b.behind;
  before = record {
    has = record { progress = p; rest = r; header = header; images = images; reads = b.reads };
    allowed = b.allowed;
  };
  refused = b.refused;
}

-- where the text doesn't break sooner
whole_some : (t : List ℕ) (commands : List Command) → IsWhole t commands →
    ((cs : List Command) × IsAccepted t cs) ⊎ ((f : LineFault) × ScheduleBreak t f)
whole_some t commands w =
    let has = w.has in
    elim
    (first_refused has.progress w.lines (behind_images (has.progress, has.rest)) w.count
    (commands, w.behind) has.reads) [
      | inl allowed ↦ inl (
        commands,
        record {
          lines = w.lines;
          count = w.count;
          behind = w.behind;
          whole = record { has = has; allowed = allowed };
          ends = w.ends;
        },
      )
      | inr found ↦ inr (
        found.1,
        inr (inr (refused_of t w.lines has.progress has.rest found.0 found.1 has.header has.images
            found.2)),
      )
    ]

broken_some : (t : List ℕ) (f : LineFault) → TextBreak t f →
    (g : LineFault) × ScheduleBreak t g
broken_some t f (inl b) = (f, inl b)
broken_some t f (inr (inl b)) = (f, inr (inl b))
broken_some t f (inr (inr b)) =
    let has = b.begun in
    elim
    (first_refused has.progress b.lines (behind_images (has.progress, has.rest)) b.count
    (b.commands, b.behind) has.reads) [
      | inl allowed ↦ (
        f,
        inr (inr (record {
          lines = b.lines;
          count = b.count;
          commands = b.commands;
          behind = b.behind;
          before = record { has = has; allowed = allowed };
          refused = inl (record { goes_on = b.goes_on; refused = b.refused });
        })),
      )
      | inr found ↦ (
        found.1,
        inr (inr (refused_of t b.lines has.progress has.rest found.0 found.1 has.header has.images
            found.2)),
      )
    ]

-- the text of a refused command has header and images
no_images_break : (t : List ℕ) (f g : LineFault) → ImagesBreak t f → CommandRefused t g → ⊥
no_images_break t f g a b =
    let has = b.before.has in
    let header =
    same_header t a.lines b.lines a.progress has.progress a.rest has.rest a.header has.header in
    let short : length has.rest < images_len has.progress =
    subst (λ (h : Header × List ℕ). length h.1 < images_len h.0) header a.short in
    omega (arith, short, has.images)

apart : (t : List ℕ) (commands : List Command) (f : LineFault) → IsAccepted t commands →
    ScheduleBreak t f → ⊥
apart t commands f a (inl b) =
    let has = a.whole.has in
    not_both t f a.lines has.progress has.rest b has.header
apart t commands f a (inr (inl b)) =
    let has = a.whole.has in
    let header =
    same_header t b.lines a.lines b.progress has.progress b.rest has.rest b.header has.header in
    let short : length has.rest < images_len has.progress =
    subst (λ (h : Header × List ℕ). length h.1 < images_len h.0) header b.short in
    omega (arith, short, has.images)
apart t commands f a (inr (inr b)) =
    let has = a.whole.has in
    ends_or_breaks has.progress a.lines (behind_images (has.progress, has.rest)) a.count b.count f
    (record {
      commands = commands;
      behind = a.behind;
      reads = has.reads;
      allowed = a.whole.allowed;
      ends = a.ends;
    }) (refused_at t a.lines has.progress has.rest f has.header b)

breaks_alike : (t : List ℕ) (f g : LineFault) → ScheduleBreak t f → ScheduleBreak t g → f ≡ g
breaks_alike t f g (inl a) (inl b) = break_once t f g (inl a) (inl b)
breaks_alike t f g (inl a) (inr (inl b)) = break_once t f g (inl a) (inr (inl b))
breaks_alike t f g (inr (inl a)) (inl b) = break_once t f g (inr (inl a)) (inl b)
breaks_alike t f g (inr (inl a)) (inr (inl b)) = break_once t f g (inr (inl a)) (inr (inl b))
breaks_alike t f g (inl a) (inr (inr b)) =
    let has = b.before.has in
    absurd (not_both t f b.lines has.progress has.rest a has.header)
breaks_alike t f g (inr (inr a)) (inl b) =
    let has = a.before.has in
    absurd (not_both t g a.lines has.progress has.rest b has.header)
breaks_alike t f g (inr (inl a)) (inr (inr b)) = absurd (no_images_break t f g a b)
breaks_alike t f g (inr (inr a)) (inr (inl b)) = absurd (no_images_break t g f b a)
breaks_alike t f g (inr (inr a)) (inr (inr b)) =
    let has = a.before.has in
    let here : BreakAt has.progress a.lines (behind_images (has.progress, has.rest)) a.count f =
    refused_at t a.lines has.progress has.rest f has.header a in
    one_break has.progress a.lines (behind_images (has.progress, has.rest)) a.count b.count f g
    here (refused_at t a.lines has.progress has.rest g has.header b)

-- a fault of a command has the number of its line, or of the next
end_line : (line : ℕ) (rest : List ℕ) (f : LineFault) → end_at line rest ≡ Err f → line ≤ f.line
end_line line [] f e = absurd (cc)
end_line line (b ∷ rest) f e =
    let is : record { line = line + 1; reason = reason.Trailing } ≡ f = cc in
    subst (λ (g : LineFault). line ≤ g.line) is (omega arith)

refused_line : {A : Type 0} (line : ℕ) (why : Reason) (f : LineFault) →
    ◌≡◌ {A = Result A LineFault} (refuse line why) (Err f) → line ≤ f.line
refused_line line why f e =
    let is : record { line = line; reason = why } ≡ f = cc in
    subst (λ (g : LineFault). line ≤ g.line) is (omega arith)

counted_line : (b d : Bool) (line : ℕ) (rest : List ℕ) (c : Command) (f : LineFault) →
    (if b then end_at line rest else if d then Ok (c, rest) else refuse line reason.TooMany)
    ≡ Err f → line ≤ f.line
counted_line true d line rest c f e = end_line line rest f e
counted_line false true line rest c f e = absurd (cc)
counted_line false false line rest c f e = refused_line line reason.TooMany f e

row_line : (line count : ℕ) (rest : List ℕ) (r : Result Command Reason) (f : LineFault) →
    command_row line count rest r ≡ Err f → line ≤ f.line
row_line line count rest (Ok c) f e =
    counted_line (is_end c) (nat_lt count 1048576) line rest c f e
row_line line count rest (Err why) f e = refused_line line why f e

cut_line : (line count : ℕ) (c : LineCut) (f : LineFault) → command_cut line count c ≡ Err f →
    line ≤ f.line
cut_line line count (Line w rest) f e = row_line line count rest (command_of w) f e
cut_line line count Long f e = refused_line line reason.LongLine f e
cut_line line count Open f e = refused_line line reason.Cut f e

-- a text doesn't break before a line that is refused for its place
commands_after_place : (t : List ℕ) (f g : LineFault) → CommandsBreak t f →
    (b : CommandRefused t g) →
    ByPlace (plan_of b.before.has.progress) (b.lines + (b.count + 1))
    b.count b.commands b.behind g →
    g.line ≤ f.line
commands_after_place t f g a b place =
    let has = b.before.has in
    let here = behind_images (has.progress, has.rest) in
    let lines : a.lines ≡ b.lines =
    same_lines t a.lines b.lines a.begun.progress has.progress a.begun.rest has.rest
    a.begun.header has.header in
    let header =
    same_header t a.lines b.lines a.begun.progress has.progress a.begun.rest has.rest
    a.begun.header has.header in
    let reads : commands_after a.count b.lines here ≡ Ok (a.commands, a.behind) =
    subst (λ (k : ℕ). commands_after a.count k here ≡ Ok (a.commands, a.behind)) lines
    (subst
    (λ (h : Header × List ℕ). commands_after a.count a.lines (behind_images h)
    ≡ Ok (a.commands, a.behind)) header a.begun.reads) in
    let refused : command_at (b.lines + (a.count + 1)) a.count a.behind ≡ Err f =
    subst (λ (k : ℕ). command_at (k + (a.count + 1)) a.count a.behind ≡ Err f) lines
    a.refused in
    let least : b.lines + (a.count + 1) ≤ f.line =
    cut_line (b.lines + (a.count + 1)) a.count (line_at a.behind) f refused in
    let line : g.line ≡ b.lines + (b.count + 1) = ap (λ (w : LineFault). w.line) place.fault in
    elim (cases_lt a.count b.count) [
      | inl less ↦ absurd (sooner a.count b.count b.lines here (a.commands, a.behind)
          (b.commands, b.behind) f reads refused has.reads less)
      | inr more ↦ omega (arith, least, line, more)
    ]

never_after_refused : (t : List ℕ) (f g : LineFault) → TextBreak t f → (b : CommandRefused t g) →
    ByText (b.lines + (b.count + 1)) b.count b.commands b.behind g
    ⊎ ByPlace (plan_of b.before.has.progress) (b.lines + (b.count + 1)) b.count b.commands b.behind
    g → g.line ≤ f.line
never_after_refused t f g a b (inl text) =
    let same : f ≡ g =
    break_once t f g a
    (inr (inr (record {
      lines = b.lines;
      count = b.count;
      commands = b.commands;
      behind = b.behind;
      begun = b.before.has;
      goes_on = text.goes_on;
      refused = text.refused;
    }))) in
    subst (λ (h : LineFault). h.line ≤ f.line) same (omega arith)
never_after_refused t f g (inl a) b (inr place) =
    let has = b.before.has in
    absurd (not_both t f b.lines has.progress has.rest a has.header)
never_after_refused t f g (inr (inl a)) b (inr place) = absurd (no_images_break t f g a b)
never_after_refused t f g (inr (inr a)) b (inr place) = commands_after_place t f g a b place

never_after : (t : List ℕ) (f g : LineFault) → TextBreak t f → ScheduleBreak t g → g.line ≤ f.line
never_after t f g a (inl b) =
    subst (λ (h : LineFault). h.line ≤ f.line) (break_once t f g a (inl b)) (omega arith)
never_after t f g a (inr (inl b)) =
    subst (λ (h : LineFault). h.line ≤ f.line) (break_once t f g a (inr (inl b))) (omega arith)
never_after t f g a (inr (inr b)) = never_after_refused t f g a b b.refused

whole_of : (t : List ℕ) (commands : List Command) → IsAccepted t commands → IsWhole t commands
whole_of t commands a = record {
  lines = a.lines;
  count = a.count;
  behind = a.behind;
  has = a.whole.has;
  ends = a.ends;
}

some_of : (t : List ℕ) →
    ((commands : List Command) × IsWhole t commands) ⊎ ((f : LineFault) × TextBreak t f) →
    ((commands : List Command) × IsAccepted t commands) ⊎ ((f : LineFault) × ScheduleBreak t f)
some_of t (inl w) = whole_some t w.0 w.1
some_of t (inr b) = inr (broken_some t b.0 b.1)

pub accepted_or_broken : (t : List ℕ) → AcceptedOrBroken t
accepted_or_broken t = record {
  some = some_of t (whole_or_broken t).some;
  not_both = λ commands f a b. apart t commands f a b;
  one = λ f g a b. breaks_alike t f g a b;
  never_after = λ f g a b. never_after t f g a b;
  list =
      λ first second a b. (whole_or_broken t).one first second (whole_of t first a)
      (whole_of t second b);
}
