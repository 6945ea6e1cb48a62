-- What was read of a text is read so whatever follows it.
use Rattle.std.proofs.Common.{◌≡◌, ℕ, zero, suc, ◌+◌, ◌||◌, List, [], ◌∷◌, ◌++◌, if◌then◌else◌, Bool, true, false, eqb, nat_lt, Result, Ok, Err, refl, sym, ap, ◌∙◌, subst, append_assoc}
use Rattle.std.proofs.lemmas.Bool.{eqb-true, true≢false, false≢true}
use Rattle.std.proofs.lemmas.List.Folds.{list_any-append}
use Rattle.std.proofs.Math.Bool.{or-false}
use Rattle.sched_text.specs.Lines.{LineCut, Line, Long, Open, put_front, line_within, line_at}
use Rattle.sched_text.specs.Header.{HeaderLines, NoLine, with_line, refuse, row_cut, header_cut, next_line, after}
use Rattle.sched_text.specs.Rows.{command_of}
use Rattle.sched_text.specs.Commands.{is_end, end_at, command_row, command_cut, command_at, commands_after, next_command, with_command}
use Rattle.sched_text.specs.Text.{has_end}
use Rattle.sched_text.specs.declared.schedule.Command.{Command}
use Rattle.sched_text.specs.declared.schedule.Command.TheVariants as command
use Rattle.sched_text.specs.declared.faults.LineFault.{LineFault}
use Rattle.sched_text.specs.declared.faults.Reason.{Reason}
use Rattle.sched_text.specs.declared.faults.Reason.TheVariants as reason

-- a line
abbrev Lone : ℕ → List ℕ → LineCut → Type 0
Lone room text (Line w rest) = (text ≡ w ++ 10 ∷ rest) × ((v : List ℕ) → line_within room (w ++ 10 ∷ v) ≡ Line w v)
Lone room text Long = Unit {0}
Lone room text Open = Unit {0}

put_lone : (b room : ℕ) (text : List ℕ) (c : LineCut) → eqb b 10 ≡ false → Lone room text c → Lone (suc room) (b ∷ text) (put_front b c)
unfolding line_within
put_lone b room text (Line w rest) e h = (ap (λ (t : List ℕ). b ∷ t) h.0, λ v. rw e (ap (put_front b) (h.1 v)))
put_lone b room text Long e h = tt
put_lone b room text Open e h = tt

lone_by : (t : Bool) (b room : ℕ) (text : List ℕ) → eqb b 10 ≡ t → Lone room text (line_within room text) → Lone (suc room) (b ∷ text) (if t then Line [] text else put_front b (line_within room text))
unfolding line_within
lone_by true b room text e h = (ap (λ (x : ℕ). x ∷ text) (eqb-true b 10 e), λ v. refl)
lone_by false b room text e h = put_lone b room text (line_within room text) e h

within_lone : (room : ℕ) (text : List ℕ) → Lone room text (line_within room text)
unfolding line_within
within_lone zero text = tt
within_lone (suc room) [] = tt
within_lone (suc room) (b ∷ text) = lone_by (eqb b 10) b room text refl (within_lone room text)

pub line_lone : (text w rest : List ℕ) → line_at text ≡ Line w rest → (text ≡ w ++ 10 ∷ rest) × ((v : List ℕ) → line_at (w ++ 10 ∷ v) ≡ Line w v)
line_lone text w rest e = subst (Lone 256 text) e (within_lone 256 text)

-- this part of a text gives this, and what stands behind is left as it is
abbrev pub Front : {A : Type 0} → (List ℕ → Result (A × List ℕ) LineFault) → List ℕ → A → List ℕ → Type 0
Front read t a rest = (x : List ℕ) × (t ≡ x ++ rest) × ((v : List ℕ) → read (x ++ v) ≡ Ok (a, v))

pub parts : {A : Type 0} (a b : A) (s t : List ℕ) → ◌≡◌ {A = Result (A × List ℕ) LineFault} (Ok (a, s)) (Ok (b, t)) → (a ≡ b) × (s ≡ t)
parts {A} a b s t e = let both : ◌≡◌ {A = A × List ℕ} (a, s) (b, t) = cc in (ap (λ (x : A × List ℕ). x.0) both, ap (λ (x : A × List ℕ). x.1) both)

-- header lines
row_front : (n : ℕ) (rest rest' : List ℕ) (q : HeaderLines) (r : Result HeaderLines Reason) → row_cut n rest r ≡ Ok (q, rest') → (rest ≡ rest') × ((v : List ℕ) → row_cut n v r ≡ Ok (q, v))
row_front n rest rest' q (Ok p) e = let both = parts p q rest rest' e in (both.1, λ v. ap (λ (x : HeaderLines). Ok (x, v)) both.0)
row_front n rest rest' q (Err why) e = absurd cc

cut_front : (n : ℕ) (p q : HeaderLines) (s rest : List ℕ) (c : LineCut) → line_at s ≡ c → header_cut n p c ≡ Ok (q, rest) → Front (λ t. header_cut n p (line_at t)) s q rest
cut_front n p q s rest (Line w r) is e =
    let row = row_front n r rest q (with_line p w) e in
    let lone = line_lone s w r is in
    let lf : List ℕ = 10 ∷ [] in (
      w ++ lf,
      lone.0 ∙ ap (λ (t : List ℕ). w ++ 10 ∷ t) row.0 ∙ sym (append_assoc w lf rest),
      λ v. ap (λ (t : List ℕ). header_cut n p (line_at t)) (append_assoc w lf v) ∙ ap (header_cut n p) (lone.1 v) ∙ row.1 v,
    )
cut_front n p q s rest Long is e = absurd cc
cut_front n p q s rest Open is e = absurd cc

after_by : (n : ℕ) (t rest : List ℕ) (p : HeaderLines) (r : Result (HeaderLines × List ℕ) LineFault) → after n t ≡ r → ((q : HeaderLines) (s : List ℕ) → after n t ≡ Ok (q, s) → Front (after n) t q s)
    → next_line (suc n) r ≡ Ok (p, rest) → Front (after (suc n)) t p rest
unfolding after
after_by n t rest p (Ok (q, s)) is before e =
    let f = before q s is in
    let g = cut_front (suc n) q p s rest (line_at s) refl e in (
      f.0 ++ g.0,
      f.1 ∙ ap (λ (u : List ℕ). f.0 ++ u) g.1 ∙ sym (append_assoc f.0 g.0 rest),
      λ v. ap (λ (u : List ℕ). next_line (suc n) (after n u)) (append_assoc f.0 g.0 v) ∙ ap (next_line (suc n)) (f.2 (g.0 ++ v)) ∙ g.2 v,
    )
after_by n t rest p (Err f) is before e = absurd cc

pub after_front : (n : ℕ) (t rest : List ℕ) (p : HeaderLines) → after n t ≡ Ok (p, rest) → Front (after n) t p rest
unfolding after
after_front zero t rest p e = let both = parts NoLine p t rest e in ([], both.1, λ v. ap (λ (q : HeaderLines). Ok (q, v)) both.0)
after_front (suc n) t rest p e = after_by n t rest p (after n t) refl (λ q s f. after_front n t s q f) e

-- commands other than `end`
no_end : (line : ℕ) (rest rest' : List ℕ) (c : Command) → is_end c ≡ false → end_at line rest ≡ Ok (c, rest') → ⊥
no_end line [] rest' c other e = let none : List ℕ = [] in true≢false (ap is_end (parts command.End c none rest' e).0 ∙ other)
no_end line (b ∷ rest) rest' c other e = absurd cc

counted_front : (b d : Bool) (line : ℕ) (rest rest' : List ℕ) (given c : Command) → is_end c ≡ false → (if b then end_at line rest else if d then Ok (given, rest) else refuse line reason.TooMany) ≡ Ok (c, rest')
    → (rest ≡ rest') × ((v : List ℕ) → (if b then end_at line v else if d then Ok (given, v) else refuse line reason.TooMany) ≡ Ok (c, v))
counted_front true d line rest rest' given c other e = absurd (no_end line rest rest' c other e)
counted_front false true line rest rest' given c other e = let both = parts given c rest rest' e in (both.1, λ v. ap (λ (x : Command). Ok (x, v)) both.0)
counted_front false false line rest rest' given c other e = absurd cc

command_row_front : (line count : ℕ) (rest rest' : List ℕ) (c : Command) (r : Result Command Reason) → is_end c ≡ false → command_row line count rest r ≡ Ok (c, rest')
    → (rest ≡ rest') × ((v : List ℕ) → command_row line count v r ≡ Ok (c, v))
command_row_front line count rest rest' c (Ok given) other e = counted_front (is_end given) (nat_lt count 1048576) line rest rest' given c other e
command_row_front line count rest rest' c (Err why) other e = absurd cc

command_front : (line count : ℕ) (s rest : List ℕ) (c : Command) (k : LineCut) → is_end c ≡ false → line_at s ≡ k → command_cut line count k ≡ Ok (c, rest) → Front (command_at line count) s c rest
command_front line count s rest c (Line w r) other is e =
    let row = command_row_front line count r rest c (command_of w) other e in
    let lone = line_lone s w r is in
    let lf : List ℕ = 10 ∷ [] in (
      w ++ lf,
      lone.0 ∙ ap (λ (t : List ℕ). w ++ 10 ∷ t) row.0 ∙ sym (append_assoc w lf rest),
      λ v. ap (command_at line count) (append_assoc w lf v) ∙ ap (command_cut line count) (lone.1 v) ∙ row.1 v,
    )
command_front line count s rest c Long other is e = absurd cc
command_front line count s rest c Open other is e = absurd cc

pub end_more : (cs : List Command) (c : Command) → has_end (cs ++ c ∷ []) ≡ (has_end cs || is_end c)
end_more cs c = list_any-append is_end cs (c ∷ []) ∙ ap (λ (b : Bool). has_end cs || b) (or-false (is_end c))

neither : (b d : Bool) → (b || d) ≡ false → (b ≡ false) × (d ≡ false)
neither true d e = absurd (true≢false e)
neither false d e = (refl, e)

joined_front : (line n : ℕ) (s rest : List ℕ) (ds cs : List Command) (r : Result (Command × List ℕ) LineFault) → has_end cs ≡ false → command_at line n s ≡ r → with_command ds r ≡ Ok (cs, rest)
    → (has_end ds ≡ false) × (x : List ℕ) × (s ≡ x ++ rest) × ((v : List ℕ) → with_command ds (command_at line n (x ++ v)) ≡ Ok (cs, v))
joined_front line n s rest ds cs (Ok (c, rest')) other is e =
    let both = parts (ds ++ c ∷ []) cs rest' rest e in
    let none = neither (has_end ds) (is_end c) (sym (end_more ds c) ∙ ap has_end both.0 ∙ other) in
    let f = command_front line n s rest c (line_at s) none.1 refl (is ∙ ap (λ (u : List ℕ). Ok (c, u)) both.1) in
    (none.0, f.0, f.1, λ v. ap (with_command ds) (f.2 v) ∙ ap (λ (q : List Command). Ok (q, v)) both.0)
joined_front line n s rest ds cs (Err f) other is e = absurd cc

commands_by : (n base : ℕ) (t rest : List ℕ) (cs : List Command) (r : Result (List Command × List ℕ) LineFault) → has_end cs ≡ false → commands_after n base t ≡ r
    → ((ds : List Command) (s : List ℕ) → has_end ds ≡ false → commands_after n base t ≡ Ok (ds, s) → Front (commands_after n base) t ds s) → next_command (base + suc n) n r ≡ Ok (cs, rest)
    → Front (commands_after (suc n) base) t cs rest
unfolding commands_after
commands_by n base t rest cs (Ok (ds, s)) other is before e =
    let g = joined_front (base + suc n) n s rest ds cs (command_at (base + suc n) n s) other refl e in
    let f = before ds s g.0 is in (
      f.0 ++ g.1,
      f.1 ∙ ap (λ (u : List ℕ). f.0 ++ u) g.2 ∙ sym (append_assoc f.0 g.1 rest),
      λ v. ap (λ (u : List ℕ). next_command (base + suc n) n (commands_after n base u)) (append_assoc f.0 g.1 v) ∙ ap (next_command (base + suc n) n) (f.2 (g.1 ++ v)) ∙ g.3 v,
    )
commands_by n base t rest cs (Err f) other is before e = absurd cc

pub commands_front : (n base : ℕ) (t rest : List ℕ) (cs : List Command) → has_end cs ≡ false → commands_after n base t ≡ Ok (cs, rest) → Front (commands_after n base) t cs rest
unfolding commands_after
commands_front zero base t rest cs other e =
    let none : List Command = [] in
    let both = parts none cs t rest e in
    ([], both.1, λ v. ap (λ (q : List Command). Ok (q, v)) both.0)
commands_front (suc n) base t rest cs other e = commands_by n base t rest cs (commands_after n base t) other refl (λ ds s o f. commands_front n base t s ds o f) e

-- nothing follows `end`
counted_last : (b d : Bool) (line : ℕ) (rest rest' : List ℕ) (given : Command) → is_end given ≡ b → (if b then end_at line rest else if d then Ok (given, rest) else refuse line reason.TooMany) ≡ Ok (command.End, rest')
    → rest' ≡ []
counted_last true d line [] rest' given is e = let none : List ℕ = [] in sym (parts command.End command.End none rest' e).1
counted_last true d line (b ∷ rest) rest' given is e = absurd cc
counted_last false true line rest rest' given is e = absurd (false≢true (sym is ∙ ap is_end (parts given command.End rest rest' e).0))
counted_last false false line rest rest' given is e = absurd cc

row_last : (line count : ℕ) (rest rest' : List ℕ) (r : Result Command Reason) → command_row line count rest r ≡ Ok (command.End, rest') → rest' ≡ []
row_last line count rest rest' (Ok given) e = counted_last (is_end given) (nat_lt count 1048576) line rest rest' given refl e
row_last line count rest rest' (Err why) e = absurd cc

cut_last : (line count : ℕ) (k : LineCut) (rest' : List ℕ) → command_cut line count k ≡ Ok (command.End, rest') → rest' ≡ []
cut_last line count (Line w rest) rest' e = row_last line count rest rest' (command_of w) e
cut_last line count Long rest' e = absurd cc
cut_last line count Open rest' e = absurd cc

pub nothing_behind : (line count : ℕ) (t rest : List ℕ) → command_at line count t ≡ Ok (command.End, rest) → rest ≡ []
nothing_behind line count t rest e = cut_last line count (line_at t) rest e
