-- A header is read exactly as its grammar has it.
use Rattle.std.proofs.Common.{◌≡◌, ◌≢◌, ℕ, ◌<◌, eqb, zero, suc, List, [], ◌∷◌, ◌++◌, map, length, nat_lt, if◌then◌else◌, Bool, true, false, Option, None, Some, Result, Ok, Err, codes, refl, sym, ap, ◌∙◌, subst, arith, append_assoc, append-nil, length-append}
use Rattle.std.specs.List.{All}
use Rattle.std.proofs.lemmas.Bool.{eqb-false}
use Rattle.std.proofs.lemmas.List.{map-append}
use Rattle.std.proofs.lemmas.List.Elements.{All-cons, All-append, All-nil}
use Rattle.std.proofs.lemmas.Grind.{flat_map-append}
use Rattle.sched_text.specs.Lines.{LineCut, Line, Long, Open, put_front, line_within, line_at}
use Rattle.sched_text.specs.Rows.{◌>>=◌, has_form, version_of, harts_of, layout_of, branch_of, task_of, irq_of}
use Rattle.sched_text.specs.Irqs.{irq_refusal}
use Rattle.sched_text.specs.Header.{HeaderLines, NoLine, Versioned, Counted, LaidOut, Rows, Whole, no_rows, with_layout, add_task, with_task, irq_line, add_judged, add_irq, with_irq, with_images, irq_or_images, with_row, with_line, row_cut, header_cut, next_line, after, HasHeader}
use Rattle.sched_text.specs.Grammar.{spelled, IsLine, HasBranch, irq_line_of, says_tasks, says_irqs, AreRows, AreHeaderRows, IsGrammatical}
use Rattle.sched_text.specs.declared.rows.IrqWords.{IrqWords}
use Rattle.sched_text.specs.declared.rows.Version.{Version}
use Rattle.sched_text.specs.declared.rows.Version.TheVariants as version
use Rattle.sched_text.specs.declared.schedule.Header.{Header}
use Rattle.sched_text.specs.declared.schedule.TaskLine.{TaskLine}
use Rattle.sched_text.specs.declared.schedule.IrqLine.{IrqLine}
use Rattle.sched_text.specs.declared.faults.Reason.{Reason}
use Rattle.sched_text.specs.declared.faults.Reason.TheVariants as reason
use Rattle.sched_text.specs.declared.faults.LineFault.{LineFault}
use Rattle.sched_text.proofs.FrontLaws.{line_lone, parts}

-- what the lines so far are
abbrev SoFar : HeaderLines → List (List ℕ) → Type 0
SoFar NoLine rows = rows ≡ []
SoFar (Versioned v) rows = (a : List ℕ) × (rows ≡ a ∷ []) × (version_of a ≡ Ok v)
SoFar (Counted v n) rows = (a : List ℕ) × (b : List ℕ) × (rows ≡ a ∷ b ∷ []) × (version_of a ≡ Ok v) × (harts_of b ≡ Ok n)
SoFar (LaidOut n l) rows =
    (a : List ℕ)
    × (b : List ℕ)
    × (c : List ℕ)
    × (rows ≡ a ∷ b ∷ c ∷ [])
    × (version_of a ≡ Ok version.Two)
    × (harts_of b ≡ Ok n)
    × (layout_of c ≡ Ok l)
SoFar (Rows h) rows = AreRows rows h
SoFar (Whole h) rows = AreHeaderRows rows h

then_ok : {A : Type 0} (r : Result A Reason) (f : A → Result HeaderLines Reason) (y : HeaderLines) → (r >>= f) ≡ Ok y → (x : A) × (r ≡ Ok x) × (f x ≡ Ok y)
then_ok (Ok x) f y e = (x, refl, e)
then_ok (Err why) f y e = absurd cc

by_if : (b : Bool) (x y : Result HeaderLines Reason) (next : HeaderLines) {P : Type 0} → (if b then x else y) ≡ Ok next → (b ≡ true → x ≡ Ok next → P) → (b ≡ false → y ≡ Ok next → P) → P
by_if true x y next e f g = f refl e
by_if false x y next e f g = g refl e

same_ok : (a b : HeaderLines) → ◌≡◌ {A = Result HeaderLines Reason} (Ok a) (Ok b) → a ≡ b
same_ok a b e = cc

-- the lines that an answer leaves
so_far : (a next : HeaderLines) (rows : List (List ℕ)) → ◌≡◌ {A = Result HeaderLines Reason} (Ok a) (Ok next) → SoFar a rows → SoFar next rows
so_far a next rows e s = subst (λ (l : HeaderLines). SoFar l rows) (same_ok a next e) s

no_rows_said : {A : Type 0} (f : List ℕ → A) (rows : List (List ℕ)) → map f rows ≡ [] → rows ≡ []
no_rows_said f [] e = refl
no_rows_said f (row ∷ rows) e = absurd cc

front_with : (v : Version) (n l w : ℕ) (a b c : List ℕ) (rows more : List (List ℕ)) → rows ≡ a ∷ b ∷ c ∷ more → version_of a ≡ Ok v → harts_of b ≡ Ok n → layout_of c ≡ Ok l → HasBranch v more w
    → AreRows rows (no_rows n l w)
front_with v n l w a b c rows more s va hb lc branch = record {
  front = a ∷ b ∷ c ∷ more;
  task_rows = [];
  irq_rows = [];
  rows_are = s ∙ sym (append-nil (a ∷ b ∷ c ∷ more));
  first = record {
    version = v;
    version_row = a;
    harts_row = b;
    layout_row = c;
    branch_rows = more;
    rows_are = refl;
    says_version = va;
    says_harts = hb;
    says_layout = lc;
    says_branch = branch;
  };
  tasks = refl;
  irqs = refl;
}

laid : (v : Version) (n l : ℕ) (a b c : List ℕ) (rows : List (List ℕ)) → rows ≡ a ∷ b ∷ c ∷ [] → version_of a ≡ Ok v → harts_of b ≡ Ok n → layout_of c ≡ Ok l → SoFar (with_layout v n l) rows
laid version.One n l a b c rows s va hb lc = front_with version.One n l 0 a b c rows [] s va hb lc (refl, refl)
laid version.Two n l a b c rows s va hb lc = (a, b, c, s, va, hb, lc)

more_task : (h : Header) (next : HeaderLines) (rows : List (List ℕ)) (w : List ℕ) → h.irqs ≡ [] → AreRows rows h → with_task h w ≡ Ok next → SoFar next (rows ++ w ∷ [])
more_task h next rows w none s e =
    let t = then_ok (task_of w) (add_task h) next e in
    let more : Header = record h { tasks = h.tasks ++ t.0 ∷ [] } in
    let lone : List (List ℕ) = w ∷ [] in
    let empty : s.irq_rows ≡ [] = no_rows_said irq_line_of s.irq_rows (s.irqs ∙ ap says_irqs none) in
    by_if (nat_lt (length h.tasks) 64) (Ok (Rows more)) (Err reason.TooMany) next t.2
    (λ _ f. so_far (Rows more) next (rows ++ lone) f (record {
      front = s.front;
      task_rows = s.task_rows ++ lone;
      irq_rows = [];
      rows_are =
          ap (λ (r : List (List ℕ)). r ++ lone) (s.rows_are ∙ ap (λ (r : List (List ℕ)). s.front ++ (s.task_rows ++ r)) empty ∙ ap (λ (r : List (List ℕ)). s.front ++ r) (append-nil s.task_rows))
          ∙ append_assoc s.front s.task_rows lone
          ∙ ap (λ (r : List (List ℕ)). s.front ++ r) (sym (append-nil (s.task_rows ++ lone)));
      first = s.first;
      tasks =
          map-append task_of s.task_rows lone
          ∙ ap (λ (r : List (Result TaskLine Reason)). r ++ task_of w ∷ []) s.tasks
          ∙ ap (λ (r : Result TaskLine Reason). says_tasks h.tasks ++ r ∷ []) t.1
          ∙ sym (map-append (λ (task : TaskLine). Ok task) h.tasks (t.0 ∷ []));
      irqs = sym (ap says_irqs none);
    }))
    (λ _ f. absurd cc)

judged : (h : Header) (irq : IrqLine) (why : Option Reason) (next : HeaderLines) → add_judged h irq why ≡ Ok next
    → ◌≡◌ {A = Result HeaderLines Reason} (Ok (Rows (record h { irqs = h.irqs ++ irq ∷ [] }))) (Ok next)
judged h irq None next e = e
judged h irq (Some why) next e = absurd cc

more_irq : (h : Header) (next : HeaderLines) (rows : List (List ℕ)) (w : List ℕ) → AreRows rows h → with_irq h w ≡ Ok next → SoFar next (rows ++ w ∷ [])
more_irq h next rows w s e =
    let t = then_ok (irq_of w) (add_irq h) next e in
    let irq = irq_line t.0 in
    let why = irq_refusal h.irqs irq in
    let more : Header = record h { irqs = h.irqs ++ irq ∷ [] } in
    let lone : List (List ℕ) = w ∷ [] in
    by_if (nat_lt t.0.task (length h.tasks)) (add_judged h irq why) (Err reason.NoTask) next t.2
    (λ _ f. so_far (Rows more) next (rows ++ lone) (judged h irq why next f) (record {
      front = s.front;
      task_rows = s.task_rows;
      irq_rows = s.irq_rows ++ lone;
      rows_are =
          ap (λ (r : List (List ℕ)). r ++ lone) s.rows_are
          ∙ append_assoc s.front (s.task_rows ++ s.irq_rows) lone
          ∙ ap (λ (r : List (List ℕ)). s.front ++ r) (append_assoc s.task_rows s.irq_rows lone);
      first = s.first;
      tasks = s.tasks;
      irqs =
          map-append irq_line_of s.irq_rows lone
          ∙ ap (λ (r : List (Result IrqLine Reason)). r ++ irq_line_of w ∷ []) s.irqs
          ∙ ap (λ (r : Result IrqWords Reason). says_irqs h.irqs ++ (r >>= (λ words. Ok (irq_line words))) ∷ []) t.1
          ∙ sym (map-append (λ (x : IrqLine). Ok x) h.irqs (irq ∷ []));
    }))
    (λ _ f. absurd cc)

more_images : (h : Header) (next : HeaderLines) (rows : List (List ℕ)) (w : List ℕ) → AreRows rows h → with_images h w ≡ Ok next → SoFar next (rows ++ w ∷ [])
more_images h next rows w s e =
    by_if (has_form w (codes "images") 1) (Ok (Whole h)) (Err reason.NotWord) next e
    (λ is f. so_far (Whole h) next (rows ++ w ∷ []) f (record { before = rows; images_row = w; rows_are = refl; are = s; images = is }))
    (λ _ f. absurd cc)

more_or_images : (h : Header) (next : HeaderLines) (rows : List (List ℕ)) (w : List ℕ) → AreRows rows h → irq_or_images h w ≡ Ok next → SoFar next (rows ++ w ∷ [])
more_or_images h next rows w s e =
    by_if (has_form w (codes "irq") 4) (with_irq h w) (with_images h w) next e (λ _ f. more_irq h next rows w s f) (λ _ f. more_images h next rows w s f)

more_row : (irqs : List IrqLine) (tasks : List TaskLine) (h : Header) (next : HeaderLines) (rows : List (List ℕ)) (w : List ℕ) → h.irqs ≡ irqs → AreRows rows h → with_row irqs tasks h w ≡ Ok next
    → SoFar next (rows ++ w ∷ [])
more_row [] [] h next rows w none s e = more_task h next rows w none s e
more_row [] (task ∷ tasks) h next rows w none s e =
    by_if (has_form w (codes "task") 7) (with_task h w) (irq_or_images h w) next e (λ _ f. more_task h next rows w none s f) (λ _ f. more_or_images h next rows w s f)
more_row (irq ∷ irqs) tasks h next rows w some s e = more_or_images h next rows w s e

-- one more line
more_line : (lines next : HeaderLines) (rows : List (List ℕ)) (w : List ℕ) → SoFar lines rows → with_line lines w ≡ Ok next → SoFar next (rows ++ w ∷ [])
more_line NoLine next rows w s e =
    let t = then_ok (version_of w) (λ v. Ok (Versioned v)) next e in
    so_far (Versioned t.0) next (rows ++ w ∷ []) t.2 (w, ap (λ (r : List (List ℕ)). r ++ w ∷ []) s, t.1)
more_line (Versioned v) next rows w (a, s, va) e =
    let t = then_ok (harts_of w) (λ n. Ok (Counted v n)) next e in
    so_far (Counted v t.0) next (rows ++ w ∷ []) t.2 (a, w, ap (λ (r : List (List ℕ)). r ++ w ∷ []) s, va, t.1)
more_line (Counted v n) next rows w (a, b, s, va, hb) e =
    let t = then_ok (layout_of w) (λ l. Ok (with_layout v n l)) next e in
    so_far (with_layout v n t.0) next (rows ++ w ∷ []) t.2 (laid v n t.0 a b w (rows ++ w ∷ []) (ap (λ (r : List (List ℕ)). r ++ w ∷ []) s) va hb t.1)
more_line (LaidOut n l) next rows w (a, b, c, s, va, hb, lc) e =
    let t = then_ok (branch_of w) (λ k. Ok (Rows (no_rows n l k))) next e in
    so_far (Rows (no_rows n l t.0)) next (rows ++ w ∷ []) t.2
    (front_with version.Two n l t.0 a b c (rows ++ w ∷ []) (w ∷ []) (ap (λ (r : List (List ℕ)). r ++ w ∷ []) s) va hb lc (w, refl, t.1))
more_line (Rows h) next rows w s e = more_row h.irqs h.tasks h next rows w refl s e
more_line (Whole h) next rows w s e = absurd cc

-- what is cut off a text is a line
abbrev IsCutLine : ℕ → LineCut → Type 0
IsCutLine room (Line w rest) = (length w < room) × All (λ b. b ≢ 10) w
IsCutLine room Long = Unit {0}
IsCutLine room Open = Unit {0}

cut_longer : (b room : ℕ) (c : LineCut) → eqb b 10 ≡ false → IsCutLine room c → IsCutLine (suc room) (put_front b c)
cut_longer b room (Line w rest) e h = (omega (arith, h.0), All-cons (λ c. c ≢ 10) b w (eqb-false b 10 e) h.1)
cut_longer b room Long e h = tt
cut_longer b room Open e h = tt

cut_by : (t : Bool) (b room : ℕ) (text : List ℕ) → eqb b 10 ≡ t → IsCutLine room (line_within room text)
    → IsCutLine (suc room) (if t then Line [] text else put_front b (line_within room text))
cut_by true b room text e h = (omega arith, All-nil (λ c. c ≢ 10))
cut_by false b room text e h = cut_longer b room (line_within room text) e h

cut_is_line : (room : ℕ) (text : List ℕ) → IsCutLine room (line_within room text)
unfolding line_within
cut_is_line zero text = tt
cut_is_line (suc room) [] = tt
cut_is_line (suc room) (b ∷ text) = cut_by (eqb b 10) b room text refl (cut_is_line room text)

is_line : (text w rest : List ℕ) → line_at text ≡ Line w rest → IsLine w
is_line text w rest e = let cut = subst (IsCutLine 256) e (cut_is_line 256 text) in record { few = cut.0; no_feed = cut.1 }

-- the first lines of a text
record FirstLines (n : ℕ) (t : List ℕ) (lines : HeaderLines) (rest : List ℕ) : Type 0 where
  rows : List (List ℕ)
  text_is : t ≡ spelled rows ++ rest
  count : length rows ≡ n
  are_lines : All IsLine rows
  are : SoFar lines rows

spelled_more : (rows : List (List ℕ)) (w rest : List ℕ) → spelled (rows ++ w ∷ []) ++ rest ≡ spelled rows ++ (w ++ 10 ∷ rest)
spelled_more rows w rest =
    let lf : List ℕ = 10 ∷ [] in
    ap (λ (r : List ℕ). r ++ rest) (flat_map-append (λ (row : List ℕ). row ++ 10 ∷ []) rows (w ∷ []) ∙ ap (λ (r : List ℕ). spelled rows ++ r) (append-nil (w ++ lf)))
    ∙ append_assoc (spelled rows) (w ++ lf) rest
    ∙ ap (λ (r : List ℕ). spelled rows ++ r) (append_assoc w lf rest)

row_more : (n : ℕ) (t w r rest : List ℕ) (q next : HeaderLines) (s : List ℕ) (answer : Result HeaderLines Reason) → FirstLines n t q s → s ≡ w ++ 10 ∷ r → IsLine w → with_line q w ≡ answer
    → row_cut (suc n) r answer ≡ Ok (next, rest) → FirstLines (suc n) t next rest
row_more n t w r rest q next s (Ok p) f lone line is e =
    let both = parts p next r rest e in
    record {
      rows = f.rows ++ w ∷ [];
      text_is = f.text_is ∙ ap (λ (u : List ℕ). spelled f.rows ++ u) (lone ∙ ap (λ (u : List ℕ). w ++ 10 ∷ u) both.1) ∙ sym (spelled_more f.rows w rest);
      count = omega (arith, length-append f.rows (w ∷ []), f.count);
      are_lines = All-append IsLine f.rows (w ∷ []) f.are_lines (All-cons IsLine w [] line (All-nil IsLine));
      are = subst (λ (l : HeaderLines). SoFar l (f.rows ++ w ∷ [])) both.0 (more_line q p f.rows w f.are is);
    }
row_more n t w r rest q next s (Err why) f lone line is e = absurd cc

cut_more : (n : ℕ) (t rest : List ℕ) (q next : HeaderLines) (s : List ℕ) (c : LineCut) → FirstLines n t q s → line_at s ≡ c → header_cut (suc n) q c ≡ Ok (next, rest) → FirstLines (suc n) t next rest
cut_more n t rest q next s (Line w r) f is e = row_more n t w r rest q next s (with_line q w) f (line_lone s w r is).0 (is_line s w r is) refl e
cut_more n t rest q next s Long f is e = absurd cc
cut_more n t rest q next s Open f is e = absurd cc

first_by : (n : ℕ) (t rest : List ℕ) (next : HeaderLines) (r : Result (HeaderLines × List ℕ) LineFault) → ((q : HeaderLines) (s : List ℕ) → r ≡ Ok (q, s) → FirstLines n t q s)
    → next_line (suc n) r ≡ Ok (next, rest) → FirstLines (suc n) t next rest
first_by n t rest next (Ok (q, s)) before e = cut_more n t rest q next s (line_at s) (before q s refl) refl e
first_by n t rest next (Err f) before e = absurd cc

first_lines : (n : ℕ) (t rest : List ℕ) (lines : HeaderLines) → after n t ≡ Ok (lines, rest) → FirstLines n t lines rest
unfolding after
first_lines zero t rest lines e =
    let both = parts NoLine lines t rest e in
    record { rows = []; text_is = both.1; count = refl; are_lines = All-nil IsLine; are = subst (λ (l : HeaderLines). SoFar l []) both.0 refl }
first_lines (suc n) t rest lines e = first_by n t rest lines (after n t) (λ q s f. first_lines n t s q f) e

pub grammatical : (text rest : List ℕ) (lines : ℕ) (h : Header) → HasHeader text lines h rest → IsGrammatical text lines h rest
grammatical text rest lines h has =
    let f = first_lines lines text rest (Whole h) has.reads in
    record { rows = f.rows; text_is = f.text_is; count = f.count; are_lines = f.are_lines; are = f.are }
