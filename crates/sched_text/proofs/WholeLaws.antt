-- A text is whole or has a break, and not both.
use Rattle.std.proofs.Common.{◌≡◌, ◌⊎◌, ◌||◌, ℕ, zero, suc, ◌+◌, ◌<◌, ◌≤◌, if◌then◌else◌, nat_lt, eqb, Bool, true, false, List, [], ◌∷◌, ◌++◌, length, drop, Result, Ok, Err, refl, sym, ap, ◌∙◌, subst, inl, inr, arith, add-one}
use Rattle.std.proofs.lemmas.Bool.{cases_eq, cases_lt, cases_Bool, or_right, or_from, true≢false, false≢true}
use Rattle.std.proofs.Math.Bool.{or-false}
use Rattle.std.proofs.lemmas.List.Folds.{list_any-append}
use Rattle.sched_text.specs.Lines.{LineCut, Line, Long, Open, put_front, line_within, line_at}
use Rattle.sched_text.specs.Rows.{command_of}
use Rattle.sched_text.specs.Header.{HeaderLines, NoLine, Versioned, Counted, LaidOut, Rows, Whole, with_line, row_cut, header_cut, refuse, after, is_whole, HasHeader, HeaderBreak}
use Rattle.sched_text.specs.Commands.{is_end, end_at, command_row, command_cut, command_at, commands_after, next_command, with_command}
use Rattle.sched_text.specs.Text.{images_len, ImagesBreak, has_end, CommandsBreak, TextBreak, IsWhole, WholeOrBroken}
use Rattle.sched_text.specs.declared.schedule.Header.{Header}
use Rattle.sched_text.specs.declared.schedule.Command.{Command}
use Rattle.sched_text.specs.declared.schedule.Command.TheVariants as command
use Rattle.sched_text.specs.declared.faults.Reason.{Reason}
use Rattle.sched_text.specs.declared.faults.Reason.TheVariants as reason
use Rattle.sched_text.specs.declared.faults.LineFault.{LineFault}
use Rattle.sched_text.proofs.BreakLaws.{after_next, not_both, same_lines, same_header, stays_so, command_refused, never_so, same_commands, sooner, behind_images}

-- what follows a line is shorter than the text
abbrev Shorter : ℕ → LineCut → Type 0
Shorter n (Line w rest) = length rest < n
Shorter n Long = Unit {0}
Shorter n Open = Unit {0}

put_shorter : (b n : ℕ) (c : LineCut) → Shorter n c → Shorter (suc n) (put_front b c)
put_shorter b n (Line w rest) h = omega (arith, h)
put_shorter b n Long h = tt
put_shorter b n Open h = tt

shorter_by : (t : Bool) (b room : ℕ) (text : List ℕ) → Shorter (length text) (line_within room text)
    → Shorter (length (b ∷ text)) (if t then Line [] text else put_front b (line_within room text))
shorter_by true b room text h = omega arith
shorter_by false b room text h = put_shorter b (length text) (line_within room text) h

within_shorter : (room : ℕ) (text : List ℕ) → Shorter (length text) (line_within room text)
unfolding line_within
within_shorter zero text = tt
within_shorter (suc room) [] = tt
within_shorter (suc room) (b ∷ text) = shorter_by (eqb b 10) b room text (within_shorter room text)

line_shorter : (text w rest : List ℕ) → line_at text ≡ Line w rest → length rest < length text
line_shorter text w rest e = subst (Shorter (length text)) e (within_shorter 256 text)

nothing_open : line_at [] ≡ Open
unfolding line_within
nothing_open = refl

no_bytes : (t : List ℕ) → length t ≤ 0 → t ≡ []
no_bytes [] e = refl
no_bytes (b ∷ t) e = absurd (omega (arith, e))

-- a header line that is taken leaves less text
row_shorter : (n m : ℕ) (rest : List ℕ) (r : Result HeaderLines Reason) (x : HeaderLines × List ℕ) → length rest < m → row_cut n rest r ≡ Ok x → length x.1 < m
row_shorter n m rest (Ok p) x less e = let same : rest ≡ x.1 = cc in rw (← same) less
row_shorter n m rest (Err why) x less e = absurd cc

header_shorter_by : (n m : ℕ) (p : HeaderLines) (c : LineCut) (x : HeaderLines × List ℕ) → Shorter m c → header_cut n p c ≡ Ok x → length x.1 < m
header_shorter_by n m p (Line w rest) x less e = row_shorter n m rest (with_line p w) x less e
header_shorter_by n m p Long x less e = absurd cc
header_shorter_by n m p Open x less e = absurd cc

header_shorter : (n : ℕ) (p : HeaderLines) (t : List ℕ) (x : HeaderLines × List ℕ) → header_cut n p (line_at t) ≡ Ok x → length x.1 < length t
header_shorter n p t x e = header_shorter_by n (length t) p (line_at t) x (within_shorter 256 t) e

-- a text has a header or breaks in it
abbrev Headed : List ℕ → Type 0
Headed t = ((n : ℕ) × (h : Header) × (rest : List ℕ) × HasHeader t n h rest) ⊎ ((f : LineFault) × HeaderBreak t f)

headed_next : (fuel n : ℕ) (t : List ℕ) (p : HeaderLines) (rest : List ℕ) (r : Result (HeaderLines × List ℕ) LineFault) → after n t ≡ Ok (p, rest) → is_whole p ≡ false → length rest ≤ suc fuel
    → header_cut (suc n) p (line_at rest) ≡ r → ((x : HeaderLines × List ℕ) → after (suc n) t ≡ Ok (x.0, x.1) → length x.1 ≤ fuel → Headed t) → Headed t
headed_next fuel n t p rest (Ok x) e on short r more = more x (after_next n t (p, rest) e ∙ r) (omega (arith, short, header_shorter (suc n) p rest x r))
headed_next fuel n t p rest (Err f) e on short r more =
    inr (f, record { before = n; lines = p; rest = rest; begun = record { reads = e; goes_on = on }; refused = rw (add-one n) r })

-- lines are whole, or the header goes on
whole_or_on : (p : HeaderLines) → ((h : Header) × (p ≡ Whole h)) ⊎ (is_whole p ≡ false)
whole_or_on NoLine = inr refl
whole_or_on (Versioned v) = inr refl
whole_or_on (Counted v n) = inr refl
whole_or_on (LaidOut n b) = inr refl
whole_or_on (Rows h) = inr refl
whole_or_on (Whole h) = inl (h, refl)

headed_from : (fuel n : ℕ) (t : List ℕ) (p : HeaderLines) (rest : List ℕ) → after n t ≡ Ok (p, rest) → length rest ≤ fuel → Headed t
headed_from zero n t p rest e short =
    elim (whole_or_on p) [
      | inl whole ↦ inl (n, whole.0, rest, record { reads = e ∙ ap (λ (q : HeaderLines). Ok (q, rest)) whole.1 })
      | inr on ↦
          let cut : header_cut (n + 1) p (line_at rest) ≡ refuse (n + 1) reason.Cut = rw (no_bytes rest short, nothing_open) refl in
          inr (record { line = n + 1; reason = reason.Cut }, record { before = n; lines = p; rest = rest; begun = record { reads = e; goes_on = on }; refused = cut })
    ]
headed_from (suc fuel) n t p rest e short =
    elim (whole_or_on p) [
      | inl whole ↦ inl (n, whole.0, rest, record { reads = e ∙ ap (λ (q : HeaderLines). Ok (q, rest)) whole.1 })
      | inr on ↦ headed_next fuel n t p rest (header_cut (suc n) p (line_at rest)) e on short refl (λ x f less. headed_from fuel (suc n) t x.0 x.1 f less)
    ]

headed : (t : List ℕ) → Headed t
unfolding after
headed t = headed_from (length t) 0 t NoLine t refl (omega arith)

-- a command that is taken leaves less text, and `end` leaves none
record CommandRead (m : ℕ) (x : Command × List ℕ) : Type 0 where
  shorter : length x.1 < m
  last : is_end x.0 ≡ true → x.1 ≡ []

ended_read : (line m : ℕ) (rest : List ℕ) (x : Command × List ℕ) → length rest < m → end_at line rest ≡ Ok x → CommandRead m x
ended_read line m [] x less e = let same : (command.End, []) ≡ x = cc in subst (CommandRead m) same (record { shorter = less; last = λ yes. refl })
ended_read line m (b ∷ rest) x less e = absurd cc

counted_by : (b d : Bool) (line m : ℕ) (rest : List ℕ) (c : Command) (x : Command × List ℕ) → length rest < m → is_end c ≡ b
    → (if b then end_at line rest else if d then Ok (c, rest) else refuse line reason.TooMany) ≡ Ok x → CommandRead m x
counted_by true d line m rest c x less is e = ended_read line m rest x less e
counted_by false true line m rest c x less is e =
    let same : (c, rest) ≡ x = cc in subst (CommandRead m) same (record { shorter = less; last = λ yes. absurd (true≢false (sym yes ∙ is)) })
counted_by false false line m rest c x less is e = absurd cc

row_read : (line count m : ℕ) (rest : List ℕ) (r : Result Command Reason) (x : Command × List ℕ) → length rest < m → command_row line count rest r ≡ Ok x → CommandRead m x
row_read line count m rest (Ok c) x less e = counted_by (is_end c) (nat_lt count 1048576) line m rest c x less refl e
row_read line count m rest (Err why) x less e = absurd cc

cut_read : (line count m : ℕ) (c : LineCut) (x : Command × List ℕ) → Shorter m c → command_cut line count c ≡ Ok x → CommandRead m x
cut_read line count m (Line w rest) x less e = row_read line count m rest (command_of w) x less e
cut_read line count m Long x less e = absurd cc
cut_read line count m Open x less e = absurd cc

command_read : (line count : ℕ) (t : List ℕ) (x : Command × List ℕ) → command_at line count t ≡ Ok x → CommandRead (length t) x
command_read line count t x e = cut_read line count (length t) (line_at t) x (within_shorter 256 t) e

pub no_command : (line count : ℕ) (t : List ℕ) (x : Command × List ℕ) → t ≡ [] → command_at line count t ≡ Ok x → ⊥
no_command line count t x none e = let less : length x.1 < length t = (command_read line count t x e).shorter in omega (arith, less, ap length none)

nothing_read : (line count : ℕ) (t : List ℕ) → t ≡ [] → command_at line count t ≡ refuse line reason.Cut
nothing_read line count t none = rw (none, nothing_open) refl

-- whether `end` is among commands and one more
end_more : (cs : List Command) (c : Command) → has_end (cs ++ c ∷ []) ≡ (has_end cs || is_end c)
end_more cs c = list_any-append is_end cs (c ∷ []) ∙ ap (λ (b : Bool). has_end cs || b) (or-false (is_end c))

ends_by : (b d : Bool) {P : Type 0} → (b || d) ≡ true → (b ≡ true → P) → (d ≡ true → P) → P
ends_by true d e left right = left refl
ends_by false d e left right = right e

-- nothing follows `end`
ends_step : (line k : ℕ) (y : List Command × List ℕ) (s : Result (Command × List ℕ) LineFault) (x : List Command × List ℕ) → (has_end y.0 ≡ true → y.1 ≡ []) → command_at line k y.1 ≡ s
    → with_command y.0 s ≡ Ok x → has_end x.0 ≡ true → x.1 ≡ []
ends_step line k y (Err f) x before at e has = absurd cc
ends_step line k y (Ok z) x before at e has =
    let same : (y.0 ++ z.0 ∷ [], z.1) ≡ x = cc in
    let behind : x.1 ≡ z.1 = sym (ap (λ (w : List Command × List ℕ). w.1) same) in
    let either : (has_end y.0 || is_end z.0) ≡ true = sym (end_more y.0 z.0) ∙ ap (λ (w : List Command × List ℕ). has_end w.0) same ∙ has in
    behind
    ∙ ends_by (has_end y.0) (is_end z.0) {P = z.1 ≡ []} either (λ yes. absurd (no_command line k y.1 z (before yes) at)) (λ yes. (command_read line k y.1 z at).last yes)

ends_all_by : (r : Result (List Command × List ℕ) LineFault) (line k : ℕ) (x : List Command × List ℕ) → ((y : List Command × List ℕ) → r ≡ Ok y → has_end y.0 ≡ true → y.1 ≡ [])
    → next_command line k r ≡ Ok x → has_end x.0 ≡ true → x.1 ≡ []
ends_all_by (Err f) line k x before e has = absurd cc
ends_all_by (Ok y) line k x before e has = ends_step line k y (command_at line k y.1) x (before y refl) refl e has

pub ends_all : (count base : ℕ) (t : List ℕ) (x : List Command × List ℕ) → commands_after count base t ≡ Ok x → has_end x.0 ≡ true → x.1 ≡ []
unfolding commands_after
ends_all zero base t x e has = let same : ([], t) ≡ x = cc in absurd (false≢true (ap (λ (w : List Command × List ℕ). has_end w.0) same ∙ has))
ends_all (suc count) base t x e has = ends_all_by (commands_after count base t) (base + suc count) count x (λ y f h. ends_all count base t y f h) e has

-- no command follows one of them
pub after_end : (m n base : ℕ) (t : List ℕ) (x y : List Command × List ℕ) → commands_after m base t ≡ Ok x → has_end x.0 ≡ true → commands_after n base t ≡ Ok y → m < n → ⊥
after_end m n base t x y a has b less =
    let line = base + (m + 1) in
    let fault : LineFault = record { line = line; reason = reason.Cut } in
    let cut : command_at line m x.1 ≡ Err fault = nothing_read line m x.1 (ends_all m base t x a has) in
    never_so y fault (commands_after n base t) b (stays_so n (suc m) base t fault (omega (arith, less)) (command_refused m base t x fault a cut))

-- commands that are whole, and a line after others that is refused
ends_or_breaks : (m n base : ℕ) (t : List ℕ) (x y : List Command × List ℕ) (f : LineFault) → commands_after m base t ≡ Ok x → has_end x.0 ≡ true → commands_after n base t ≡ Ok y → has_end y.0 ≡ false
    → command_at (base + (n + 1)) n y.1 ≡ Err f → ⊥
ends_or_breaks m n base t x y f a has b on r =
    elim (cases_eq m n) [
      | inl e ↦ true≢false (sym has ∙ ap (λ (w : List Command × List ℕ). has_end w.0) (same_commands x y (commands_after m base t) a (rw e b)) ∙ on)
      | inr other ↦ elim (cases_lt m n) [ inl less ↦ after_end m n base t x y a has b less | inr more ↦ sooner n m base t y x f b r a (omega (arith, more, other)) ]
    ]

-- two headers of a text are one, and so the commands of both follow one of them
pub moved : (t : List ℕ) (l m n : ℕ) (p q : Header) (r s : List ℕ) (x : List Command × List ℕ) → HasHeader t l p r → HasHeader t m q s → commands_after n m (drop (images_len q) s) ≡ Ok x
    → commands_after n l (drop (images_len p) r) ≡ Ok x
moved t l m n p q r s x a b e =
    subst (λ (h : Header × List ℕ). commands_after n l (behind_images h) ≡ Ok x) (same_header t m l q p s r b a)
    (subst (λ (k : ℕ). commands_after n k (behind_images (q, s)) ≡ Ok x) (same_lines t m l q p s r b a) e)

-- a whole text has no break
commands_apart : (t : List ℕ) (commands : List Command) (f : LineFault) → IsWhole t commands → CommandsBreak t f → ⊥
commands_apart t commands f a b =
    let first = a.has.header in
    let second = b.begun.header in
    let lines : b.lines ≡ a.lines = same_lines t b.lines a.lines b.begun.progress a.has.progress b.begun.rest a.has.rest second first in
    ends_or_breaks a.count b.count a.lines (drop (images_len a.has.progress) a.has.rest) (commands, a.behind) (b.commands, b.behind) f a.has.reads a.ends
    (moved t a.lines b.lines b.count a.has.progress b.begun.progress a.has.rest b.begun.rest (b.commands, b.behind) first second b.begun.reads) b.goes_on
    (subst (λ (k : ℕ). command_at (k + (b.count + 1)) b.count b.behind ≡ Err f) lines b.refused)

images_apart : (t : List ℕ) (commands : List Command) (f : LineFault) → IsWhole t commands → ImagesBreak t f → ⊥
images_apart t commands f a b =
    let header = same_header t b.lines a.lines b.progress a.has.progress b.rest a.has.rest b.header a.has.header in
    let short : length a.has.rest < images_len a.has.progress = subst (λ (h : Header × List ℕ). length h.1 < images_len h.0) header b.short in
    omega (arith, short, a.has.images)

apart : (t : List ℕ) (commands : List Command) (f : LineFault) → IsWhole t commands → TextBreak t f → ⊥
apart t commands f a (inl b) = not_both t f a.lines a.has.progress a.has.rest b a.has.header
apart t commands f a (inr (inl b)) = images_apart t commands f a b
apart t commands f a (inr (inr b)) = commands_apart t commands f a b

-- a whole text has one list of commands
one_list : (t : List ℕ) (first second : List Command) → IsWhole t first → IsWhole t second → first ≡ second
one_list t first second a b =
    let here = drop (images_len a.has.progress) a.has.rest in
    let x : List Command × List ℕ = (first, a.behind) in
    let y : List Command × List ℕ = (second, b.behind) in
    let reads = moved t a.lines b.lines b.count a.has.progress b.has.progress a.has.rest b.has.rest y a.has.header b.has.header b.has.reads in
    elim (cases_eq a.count b.count) [
      | inl e ↦ ap (λ (w : List Command × List ℕ). w.0) (same_commands x y (commands_after a.count a.lines here) a.has.reads (rw e reads))
      | inr other ↦ elim (cases_lt a.count b.count) [
        | inl less ↦ absurd (after_end a.count b.count a.lines here x y a.has.reads a.ends reads less)
        | inr more ↦ absurd (after_end b.count a.count a.lines here y x reads b.ends a.has.reads (omega (arith, more, other)))
      ]
    ]

-- commands are read up to `end` or a refused line
abbrev Told : List ℕ → Type 0
Told t = ((commands : List Command) × IsWhole t commands) ⊎ ((f : LineFault) × TextBreak t f)

-- a header and whole images at the front of a text
record Front (t : List ℕ) : Type 0 where
  lines : ℕ
  progress : Header
  rest : List ℕ
  header : HasHeader t lines progress rest
  images : images_len progress ≤ length rest

abbrev commands_of : (t : List ℕ) → Front t → ℕ → Result (List Command × List ℕ) LineFault
commands_of t h count = commands_after count h.lines (drop (images_len h.progress) h.rest)

refused_there : (t : List ℕ) (h : Front t) (count : ℕ) (cs : List Command) (behind : List ℕ) (f : LineFault) → commands_of t h count ≡ Ok (cs, behind) → has_end cs ≡ false
    → command_at (h.lines + (count + 1)) count behind ≡ Err f → Told t
refused_there t h count cs behind f e on r =
    inr (
      f,
      inr (inr (record {
        lines = h.lines;
        count = count;
        commands = cs;
        behind = behind;
        begun = record { progress = h.progress; rest = h.rest; header = h.header; images = h.images; reads = e };
        goes_on = on;
        refused = r;
      })),
    )

one_more : (t : List ℕ) (h : Front t) (count : ℕ) (cs : List Command) (behind : List ℕ) (x : Command × List ℕ) → commands_of t h count ≡ Ok (cs, behind)
    → command_at (h.lines + suc count) count behind ≡ Ok x → commands_of t h (suc count) ≡ Ok (cs ++ x.0 ∷ [], x.1)
unfolding commands_after
one_more t h count cs behind x e r = ap (next_command (h.lines + suc count) count) e ∙ ap (with_command cs) r

told_next : (fuel : ℕ) (t : List ℕ) (h : Front t) (count : ℕ) (cs : List Command) (behind : List ℕ) (r : Result (Command × List ℕ) LineFault) → commands_of t h count ≡ Ok (cs, behind) → has_end cs ≡ false
    → length behind ≤ suc fuel → command_at (h.lines + suc count) count behind ≡ r
    → ((x : List Command × List ℕ) → commands_of t h (suc count) ≡ Ok (x.0, x.1) → has_end x.0 ≡ false → length x.1 ≤ fuel → Told t) → Told t
told_next fuel t h count cs behind (Err f) e on short r more = refused_there t h count cs behind f e on (rw (add-one count) r)
told_next fuel t h count cs behind (Ok x) e on short r more =
    let next = one_more t h count cs behind x e r in
    elim (cases_Bool (is_end x.0)) [
      | inl ends ↦ inl (
        cs ++ x.0 ∷ [],
        record {
          lines = h.lines;
          count = suc count;
          behind = x.1;
          has = record { progress = h.progress; rest = h.rest; header = h.header; images = h.images; reads = next };
          ends = end_more cs x.0 ∙ or_right (has_end cs) (is_end x.0) ends;
        },
      )
      | inr other ↦
          more (cs ++ x.0 ∷ [], x.1) next (end_more cs x.0 ∙ or_from (has_end cs) (is_end x.0) on other)
          (omega (arith, short, (command_read (h.lines + suc count) count behind x r).shorter))
    ]

told_from : (fuel : ℕ) (t : List ℕ) (h : Front t) (count : ℕ) (cs : List Command) (behind : List ℕ) → commands_of t h count ≡ Ok (cs, behind) → has_end cs ≡ false → length behind ≤ fuel → Told t
told_from zero t h count cs behind e on short =
    refused_there t h count cs behind (record { line = h.lines + (count + 1); reason = reason.Cut }) e on (nothing_read (h.lines + (count + 1)) count behind (no_bytes behind short))
told_from (suc fuel) t h count cs behind e on short =
    told_next fuel t h count cs behind (command_at (h.lines + suc count) count behind) e on short refl (λ x f off less. told_from fuel t h (suc count) x.0 x.1 f off less)

told_front : (t : List ℕ) (h : Front t) → Told t
unfolding commands_after
told_front t h = let there = drop (images_len h.progress) h.rest in told_from (length there) t h 0 [] there refl refl (omega arith)

told_header : (t : List ℕ) (n : ℕ) (p : Header) (rest : List ℕ) → HasHeader t n p rest → Told t
told_header t n p rest header =
    elim (cases_lt (length rest) (images_len p)) [
      | inl short ↦ inr (record { line = n; reason = reason.Cut }, inr (inl (record { lines = n; progress = p; rest = rest; header = header; short = short; fault = refl })))
      | inr whole ↦ told_front t (record { lines = n; progress = p; rest = rest; header = header; images = whole })
    ]

told_by : (t : List ℕ) → Headed t → Told t
told_by t (inl (n, p, rest, header)) = told_header t n p rest header
told_by t (inr (f, b)) = inr (f, inl b)

pub whole_or_broken : (t : List ℕ) → WholeOrBroken t
whole_or_broken t = record { some = told_by t (headed t); not_both = λ commands f a b. apart t commands f a b; one = λ first second a b. one_list t first second a b }
