-- A text has one break at most.
use Rattle.std.proofs.Common.{◌≡◌, ℕ, zero, suc, ◌+◌, ◌<◌, ◌≤◌, List, length, drop, Result, Ok, Err, refl, sym, ap, ◌∙◌, subst, inl, inr, arith, add-one}
use Rattle.std.proofs.lemmas.Bool.{cases_eq, cases_lt, true≢false}
use Rattle.sched_text.specs.Lines.{LineCut, Line, Long, Open, line_at}
use Rattle.sched_text.specs.Header.{HeaderLines, NoLine, Versioned, Counted, LaidOut, Rows, Whole, header_cut, next_line, after, is_whole, HasHeader, HeaderBreak}
use Rattle.sched_text.specs.Commands.{command_at, commands_after, next_command, with_command}
use Rattle.sched_text.specs.Text.{images_len, ImagesBreak, CommandsBreak, TextBreak}
use Rattle.sched_text.specs.declared.schedule.Header.{Header}
use Rattle.sched_text.specs.declared.schedule.Command.{Command}
use Rattle.sched_text.specs.declared.faults.Reason.TheVariants as reason
use Rattle.sched_text.specs.declared.faults.LineFault.{LineFault}

-- after a refused line each further one is refused alike
pub stays : (m n : ℕ) (t : List ℕ) (f : LineFault) → n ≤ m → after n t ≡ Err f → after m t ≡ Err f
unfolding after
stays zero n t f within e = let none : n ≡ 0 = omega (arith, within) in rw none at e
stays (suc m) n t f within e =
    elim (cases_eq n (suc m)) [
      | inl same ↦ rw same at e
      | inr other ↦ let less : n ≤ m = omega (arith, within, other) in ap (next_line (suc m)) (stays m n t f less e)
    ]

pub after_next : (n : ℕ) (t : List ℕ) (x : HeaderLines × List ℕ) → after n t ≡ Ok x → after (suc n) t ≡ header_cut (suc n) x.0 (line_at x.1)
unfolding after
after_next n t x e = ap (next_line (suc n)) e

pub never : {A : Type 0} (x : HeaderLines × List ℕ) (f : LineFault) (r : Result (HeaderLines × List ℕ) LineFault) → r ≡ Ok x → r ≡ Err f → A
never x f r e g = absurd (cc)

-- no line of the header follows `images`
stops_at : (n : ℕ) (c : LineCut) (h : Header) → (g : LineFault) × (header_cut n (Whole h) c ≡ Err g)
stops_at n Long h = (record { line = n; reason = reason.LongLine }, refl)
stops_at n Open h = (record { line = n; reason = reason.Cut }, refl)
stops_at n (Line w rest) h = (record { line = n; reason = reason.NotWord }, refl)

pub same_fault : {A : Type 0} (r : Result A LineFault) (f g : LineFault) → r ≡ Err f → r ≡ Err g → f ≡ g
same_fault r f g e h = cc

-- the parts of what was read
same_read : (x y : HeaderLines × List ℕ) (r : Result (HeaderLines × List ℕ) LineFault) → r ≡ Ok x → r ≡ Ok y → x ≡ y
same_read x y r e g = cc

-- a header that is refused isn't whole
pub not_both : (t : List ℕ) (f : LineFault) (m : ℕ) (q : Header) (s : List ℕ) → HeaderBreak t f → HasHeader t m q s → ⊥
not_both t f m q s b h =
    elim (cases_lt b.before m) [
      | inl less ↦ never (Whole q, s) f (after m t) h.reads (stays m (suc b.before) t f (omega (arith, less)) (after_next b.before t (b.lines, b.rest) b.begun.reads ∙ rw (← add-one b.before) b.refused))
      | inr more ↦ elim (cases_eq m b.before) [
        | inl same ↦
            let p = same_read (Whole q, s) (b.lines, b.rest) (after m t) h.reads (rw same b.begun.reads) in
            true≢false (ap (λ (x : HeaderLines × List ℕ). is_whole x.0) p ∙ b.begun.goes_on)
        | inr other ↦
            let stop = stops_at (suc m) (line_at s) q in
            never (b.lines, b.rest) stop.0 (after b.before t) b.begun.reads (stays b.before (suc m) t stop.0 (omega (arith, more, other)) (after_next m t (Whole q, s) h.reads ∙ stop.1))
      ]
    ]

-- two headers at the front of a text are one
one_header : (t : List ℕ) (m n : ℕ) (p q : Header) (r s : List ℕ) → HasHeader t m p r → HasHeader t n q s → m < n → ⊥
one_header t m n p q r s a b less =
    let stop = stops_at (suc m) (line_at r) p in
    never (Whole q, s) stop.0 (after n t) b.reads (stays n (suc m) t stop.0 (omega (arith, less)) (after_next m t (Whole p, r) a.reads ∙ stop.1))

pub same_lines : (t : List ℕ) (m n : ℕ) (p q : Header) (r s : List ℕ) → HasHeader t m p r → HasHeader t n q s → m ≡ n
same_lines t m n p q r s a b =
    elim (cases_eq m n) [
      | inl e ↦ e
      | inr other ↦ elim (cases_lt m n) [ inl less ↦ absurd (one_header t m n p q r s a b less) | inr more ↦ absurd (one_header t n m q p s r b a (omega (arith, more, other))) ]
    ]

-- the header of lines that are whole
abbrev header_in : Header → HeaderLines → Header
header_in h NoLine = h
header_in h (Versioned v) = h
header_in h (Counted v n) = h
header_in h (LaidOut n b) = h
header_in h (Rows g) = h
header_in h (Whole g) = g

abbrev header_and_rest : Header → HeaderLines × List ℕ → Header × List ℕ
header_and_rest h x = (header_in h x.0, x.1)

pub same_header : (t : List ℕ) (m n : ℕ) (p q : Header) (r s : List ℕ) → HasHeader t m p r → HasHeader t n q s → ◌≡◌ {A = Header × List ℕ} (p, r) (q, s)
same_header t m n p q r s a b =
    ap (header_and_rest p) (same_read (Whole p, r) (Whole q, s) (after m t) a.reads (rw (same_lines t m n p q r s a b) b.reads))

-- two refused lines of a header are one
before_less : (t : List ℕ) (f g : LineFault) (a : HeaderBreak t f) (b : HeaderBreak t g) → a.before < b.before → ⊥
before_less t f g a b less =
    never (b.lines, b.rest) f (after b.before t) b.begun.reads
    (stays b.before (suc a.before) t f (omega (arith, less)) (after_next a.before t (a.lines, a.rest) a.begun.reads ∙ rw (← add-one a.before) a.refused))

refused_alike : (n m : ℕ) (x y : HeaderLines × List ℕ) (f g : LineFault) → n ≡ m → x ≡ y → header_cut (n + 1) x.0 (line_at x.1) ≡ Err f → header_cut (m + 1) y.0 (line_at y.1) ≡ Err g → f ≡ g
refused_alike n m x y f g e h a b =
    let c : header_cut (m + 1) y.0 (line_at y.1) ≡ Err f = subst (λ (z : HeaderLines × List ℕ). header_cut (m + 1) z.0 (line_at z.1) ≡ Err f) h (subst (λ (k : ℕ). header_cut (k + 1) x.0 (line_at x.1) ≡ Err f) e a) in
    same_fault (header_cut (m + 1) y.0 (line_at y.1)) f g c b

header_once : (t : List ℕ) (f g : LineFault) → HeaderBreak t f → HeaderBreak t g → f ≡ g
header_once t f g a b =
    elim (cases_eq a.before b.before) [
      | inl e ↦ refused_alike a.before b.before (a.lines, a.rest) (b.lines, b.rest) f g e
          (same_read (a.lines, a.rest) (b.lines, b.rest) (after a.before t) a.begun.reads (rw e b.begun.reads)) a.refused b.refused
      | inr other ↦ elim (cases_lt a.before b.before) [ inl less ↦ absurd (before_less t f g a b less) | inr more ↦ absurd (before_less t g f b a (omega (arith, more, other))) ]
    ]

-- the same of commands
pub stays_so : (m n base : ℕ) (t : List ℕ) (f : LineFault) → n ≤ m → commands_after n base t ≡ Err f → commands_after m base t ≡ Err f
unfolding commands_after
stays_so zero n base t f within e = let none : n ≡ 0 = omega (arith, within) in rw none at e
stays_so (suc m) n base t f within e =
    elim (cases_eq n (suc m)) [
      | inl same ↦ rw same at e
      | inr other ↦ let less : n ≤ m = omega (arith, within, other) in ap (next_command (base + suc m) m) (stays_so m n base t f less e)
    ]

pub command_refused : (n base : ℕ) (t : List ℕ) (x : List Command × List ℕ) (f : LineFault) → commands_after n base t ≡ Ok x → command_at (base + (n + 1)) n x.1 ≡ Err f → commands_after (suc n) base t ≡ Err f
unfolding commands_after
command_refused n base t x f e r =
    let there : command_at (base + suc n) n x.1 ≡ Err f = rw (← add-one n) r in
    ap (next_command (base + suc n) n) e ∙ ap (with_command x.0) there

pub never_so : {A : Type 0} (x : List Command × List ℕ) (f : LineFault) (r : Result (List Command × List ℕ) LineFault) → r ≡ Ok x → r ≡ Err f → A
never_so x f r e g = absurd (cc)

pub same_commands : (x y : List Command × List ℕ) (r : Result (List Command × List ℕ) LineFault) → r ≡ Ok x → r ≡ Ok y → x ≡ y
same_commands x y r e g = cc

-- a command that is refused, in the place of one that isn't
pub sooner : (n m base : ℕ) (t : List ℕ) (x y : List Command × List ℕ) (f : LineFault) → commands_after n base t ≡ Ok x → command_at (base + (n + 1)) n x.1 ≡ Err f → commands_after m base t ≡ Ok y → n < m → ⊥
sooner n m base t x y f a r b less = never_so y f (commands_after m base t) b (stays_so m (suc n) base t f (omega (arith, less)) (command_refused n base t x f a r))

alike : (n m base : ℕ) (x y : List Command × List ℕ) (f g : LineFault) → n ≡ m → x ≡ y → command_at (base + (n + 1)) n x.1 ≡ Err f → command_at (base + (m + 1)) m y.1 ≡ Err g → f ≡ g
alike n m base x y f g e h a b =
    let c : command_at (base + (m + 1)) m y.1 ≡ Err f = subst (λ (z : List Command × List ℕ). command_at (base + (m + 1)) m z.1 ≡ Err f) h (subst (λ (k : ℕ). command_at (base + (k + 1)) k x.1 ≡ Err f) e a) in
    same_fault (command_at (base + (m + 1)) m y.1) f g c b

commands_once : (n m base : ℕ) (t : List ℕ) (x y : List Command × List ℕ) (f g : LineFault) → commands_after n base t ≡ Ok x → command_at (base + (n + 1)) n x.1 ≡ Err f
    → commands_after m base t ≡ Ok y → command_at (base + (m + 1)) m y.1 ≡ Err g → f ≡ g
commands_once n m base t x y f g a r b s =
    elim (cases_eq n m) [
      | inl e ↦ alike n m base x y f g e (same_commands x y (commands_after n base t) a (rw e b)) r s
      | inr other ↦ elim (cases_lt n m) [ inl less ↦ absurd (sooner n m base t x y f a r b less) | inr more ↦ absurd (sooner m n base t y x g b s a (omega (arith, more, other))) ]
    ]

-- what follows the images, by the header
abbrev pub behind_images : Header × List ℕ → List ℕ
behind_images h = drop (images_len h.0) h.1

commands_break_once : (t : List ℕ) (f g : LineFault) → CommandsBreak t f → CommandsBreak t g → f ≡ g
commands_break_once t f g a b =
    let lines : b.lines ≡ a.lines = same_lines t b.lines a.lines b.begun.progress a.begun.progress b.begun.rest a.begun.rest b.begun.header a.begun.header in
    let header = same_header t b.lines a.lines b.begun.progress a.begun.progress b.begun.rest a.begun.rest b.begun.header a.begun.header in
    let reads : commands_after b.count a.lines (behind_images (a.begun.progress, a.begun.rest)) ≡ Ok (b.commands, b.behind) =
    subst (λ (h : Header × List ℕ). commands_after b.count a.lines (behind_images h) ≡ Ok (b.commands, b.behind)) header
    (subst (λ (n : ℕ). commands_after b.count n (behind_images (b.begun.progress, b.begun.rest)) ≡ Ok (b.commands, b.behind)) lines b.begun.reads) in
    let refused : command_at (a.lines + (b.count + 1)) b.count b.behind ≡ Err g = subst (λ (n : ℕ). command_at (n + (b.count + 1)) b.count b.behind ≡ Err g) lines b.refused in
    commands_once a.count b.count a.lines (behind_images (a.begun.progress, a.begun.rest)) (a.commands, a.behind) (b.commands, b.behind) f g a.begun.reads a.refused reads refused

images_once : (t : List ℕ) (f g : LineFault) → ImagesBreak t f → ImagesBreak t g → f ≡ g
images_once t f g a b =
    let lines : a.lines ≡ b.lines = same_lines t a.lines b.lines a.progress b.progress a.rest b.rest a.header b.header in
    a.fault ∙ ap (λ (n : ℕ). record { line = n; reason = reason.Cut }) lines ∙ sym b.fault

-- images that are cut short aren't whole
pub images_or_commands : (t : List ℕ) (f g : LineFault) → ImagesBreak t f → CommandsBreak t g → ⊥
images_or_commands t f g a b =
    let header = same_header t a.lines b.lines a.progress b.begun.progress a.rest b.begun.rest a.header b.begun.header in
    let short : length b.begun.rest < images_len b.begun.progress = subst (λ (h : Header × List ℕ). length h.1 < images_len h.0) header a.short in
    omega (arith, short, b.begun.images)

-- a text has one break at most
pub break_once : (t : List ℕ) (f g : LineFault) → TextBreak t f → TextBreak t g → f ≡ g
break_once t f g (inl a) (inl b) = header_once t f g a b
break_once t f g (inl a) (inr (inl b)) = absurd (not_both t f b.lines b.progress b.rest a b.header)
break_once t f g (inl a) (inr (inr b)) = absurd (not_both t f b.lines b.begun.progress b.begun.rest a b.begun.header)
break_once t f g (inr (inl a)) (inl b) = absurd (not_both t g a.lines a.progress a.rest b a.header)
break_once t f g (inr (inl a)) (inr (inl b)) = images_once t f g a b
break_once t f g (inr (inl a)) (inr (inr b)) = absurd (images_or_commands t f g a b)
break_once t f g (inr (inr a)) (inl b) = absurd (not_both t g a.lines a.begun.progress a.begun.rest b a.begun.header)
break_once t f g (inr (inr a)) (inr (inl b)) = absurd (images_or_commands t g f b a)
break_once t f g (inr (inr a)) (inr (inr b)) = commands_break_once t f g a b
