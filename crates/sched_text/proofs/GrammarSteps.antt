-- The lines of the grammar are read as their header: the other way than GrammarLaws.
use Rattle.std.proofs.Common.{◌≡◌, ◌≢◌, ℕ, zero, suc, ◌+◌, ◌<◌, ◌≤◌, List, [], ◌∷◌, ◌++◌, map, length, nat_eq, nat_lt, if◌then◌else◌, Bool, true, false, ◌&&◌, None, Result, Ok, Err, codes, refl, sym, ap, ◌∙◌, subst, arith, append_assoc, append-nil, length-append}
use Rattle.std.specs.List.{All}
use Rattle.std.specs.Str.{bytes_eq}
use Rattle.std.proofs.lemmas.Bool.{eqb-true, ne_eqb, lt-ltb}
use Rattle.std.proofs.lemmas.List.Elements.{All-head, All-tail}
use Rattle.sched_text.specs.Lines.{Line, put_front, line_within, words, word}
use Rattle.sched_text.specs.Rows.{◌>>=◌, has_form, version_of, harts_of, layout_of, task_of, irq_of}
use Rattle.sched_text.specs.Irqs.{irq_refusal, IsIrq, follow_on}
use Rattle.sched_text.specs.Header.{HeaderLines, NoLine, Versioned, Counted, LaidOut, Rows, Whole, no_rows, with_layout, add_task, with_task, irq_line, add_judged, add_irq, with_irq, with_images, irq_or_images, with_row, with_line, row_cut, header_cut, next_line, after, HasHeader, IsHeader}
use Rattle.sched_text.specs.Grammar.{spelled, IsLine, HasBranch, irq_line_of, says_tasks, says_irqs, AreRows, AreHeaderRows, IsGrammatical}
use Rattle.sched_text.specs.declared.rows.IrqWords.{IrqWords}
use Rattle.sched_text.specs.declared.rows.Version.{Version}
use Rattle.sched_text.specs.declared.rows.Version.TheVariants as version
use Rattle.sched_text.specs.declared.schedule.Header.{Header}
use Rattle.sched_text.specs.declared.schedule.TaskLine.{TaskLine}
use Rattle.sched_text.specs.declared.schedule.IrqLine.{IrqLine}
use Rattle.sched_text.specs.declared.faults.Reason.{Reason}
use Rattle.sched_text.specs.declared.faults.Reason.TheVariants as reason

-- a line with its line feed is cut off a text
line_back : (room : ℕ) (w v : List ℕ) → length w < room → All (λ b. b ≢ 10) w → line_within room (w ++ 10 ∷ v) ≡ Line w v
unfolding line_within
line_back zero w v few all = absurd (omega (arith, few))
line_back (suc room) [] v few all = refl
line_back (suc room) (b ∷ w) v few all =
    rw (ne_eqb b 10 (All-head (λ c. c ≢ 10) b w all)) (ap (put_front b) (line_back room w v (omega (arith, few)) (All-tail (λ c. c ≢ 10) b w all)))

-- lines that are read one after another
unfoldable Reads : HeaderLines → List (List ℕ) → HeaderLines → Type 0
Reads lines [] out = lines ≡ out
Reads lines (row ∷ rows) out = (next : HeaderLines) × (with_line lines row ≡ Ok next) × Reads next rows out

reads_more : (a b c : HeaderLines) (xs ys : List (List ℕ)) → Reads a xs b → Reads b ys c → Reads a (xs ++ ys) c
unfolding Reads
reads_more a b c [] ys first second = subst (λ (l : HeaderLines). Reads l ys c) (sym first) second
reads_more a b c (x ∷ xs) ys (next, step, first) second = (next, step, reads_more next b c xs ys first second)

spelled_front : (row : List ℕ) (rows : List (List ℕ)) (rest : List ℕ) → spelled (row ∷ rows) ++ rest ≡ row ++ 10 ∷ (spelled rows ++ rest)
spelled_front row rows rest =
    let lf : List ℕ = 10 ∷ [] in
    append_assoc (row ++ lf) (spelled rows) rest ∙ append_assoc row lf (spelled rows ++ rest)

reads_text : (rows : List (List ℕ)) (n m : ℕ) (t rest : List ℕ) (a b : HeaderLines) → m ≡ length rows + n → after n t ≡ Ok (a, spelled rows ++ rest) → All IsLine rows → Reads a rows b
    → after m t ≡ Ok (b, rest)
unfolding after Reads
reads_text [] n m t rest a b is e all same =
    let count : m ≡ n = omega (arith, is) in
    subst (λ (k : ℕ). after k t ≡ Ok (b, rest)) (sym count) (e ∙ ap (λ (l : HeaderLines). Ok (l, rest)) same)
reads_text (row ∷ rows) n m t rest a b is e all (p, step, more) =
    let one = All-head IsLine row rows all in
    let behind = spelled rows ++ rest in
    let next : after (suc n) t ≡ Ok (p, behind)
    = ap (next_line (suc n)) (e ∙ ap (λ (u : List ℕ). Ok (a, u)) (spelled_front row rows rest))
    ∙ ap (header_cut (suc n) a) (line_back 256 row behind one.few one.no_feed)
    ∙ ap (row_cut (suc n) behind) step in
    reads_text rows (suc n) m t rest p b (omega (arith, is)) next (All-tail IsLine row rows all) more

-- one line more
by_true : {A : Type 0} (b : Bool) (x y : A) → b ≡ true → (if b then x else y) ≡ x
by_true true x y e = refl
by_true false x y e = absurd cc

by_false : {A : Type 0} (b : Bool) (x y : A) → b ≡ false → (if b then x else y) ≡ y
by_false true x y e = absurd cc
by_false false x y e = refl

was_true : {A : Type 0} (b : Bool) (x : Result A Reason) (why : Reason) (y : A) → (if b then x else Err why) ≡ Ok y → b ≡ true
was_true true x why y e = refl
was_true false x why y e = absurd cc

both_parts : (b c : Bool) → (b && c) ≡ true → b ≡ true
both_parts true c e = refl
both_parts false c e = absurd cc

-- a line of one form has no form with another number of words
other_count : (n k m : ℕ) (c d : Bool) → (nat_eq n k && c) ≡ true → nat_eq k m ≡ false → (nat_eq n m && d) ≡ false
other_count n k m c d e other =
    let count : n ≡ k = eqb-true n k (both_parts (nat_eq n k) c e) in
    ap (λ (j : ℕ). nat_eq j m && d) count ∙ ap (λ (b : Bool). b && d) other

no_other : (text first second : List ℕ) (k m : ℕ) → has_form text first k ≡ true → nat_eq k m ≡ false → has_form text second m ≡ false
no_other text first second k m e other = other_count (length (words text)) k m (bytes_eq (word text 0) first) (bytes_eq (word text 0) second) e other

-- a task line
task_added : (h : Header) (row : List ℕ) (t : TaskLine) → task_of row ≡ Ok t → length h.tasks < 64 → with_task h row ≡ Ok (Rows (record h { tasks = h.tasks ++ t ∷ [] }))
task_added h row t says few =
    ap (λ (r : Result TaskLine Reason). r >>= add_task h) says
    ∙ by_true (nat_lt (length h.tasks) 64) (Ok (Rows (record h { tasks = h.tasks ++ t ∷ [] }))) (Err reason.TooMany) (lt-ltb (length h.tasks) 64 few)

task_form : (row : List ℕ) (t : TaskLine) → task_of row ≡ Ok t → has_form row (codes "task") 7 ≡ true
task_form row t e = was_true (has_form row (codes "task") 7) _ reason.NotWord t e

task_row : (irqs : List IrqLine) (tasks : List TaskLine) (h : Header) (row : List ℕ) (t : TaskLine) → irqs ≡ [] → task_of row ≡ Ok t → length h.tasks < 64
    → with_row irqs tasks h row ≡ Ok (Rows (record h { tasks = h.tasks ++ t ∷ [] }))
task_row [] [] h row t none says few = task_added h row t says few
task_row [] (task ∷ tasks) h row t none says few =
    by_true (has_form row (codes "task") 7) (with_task h row) (irq_or_images h row) (task_form row t says) ∙ task_added h row t says few
task_row (irq ∷ irqs) tasks h row t none says few = absurd cc

heads : {A : Type 0} (x y : A) (xs ys : List A) → x ∷ xs ≡ y ∷ ys → (x ≡ y) × (xs ≡ ys)
heads x y xs ys e = (cc, cc)

tasks_read : (rows : List (List ℕ)) (tasks : List TaskLine) (h : Header) → h.irqs ≡ [] → map task_of rows ≡ says_tasks tasks → length h.tasks + length tasks ≤ 64
    → Reads (Rows h) rows (Rows (record h { tasks = h.tasks ++ tasks }))
unfolding Reads
tasks_read [] [] h none says few = ap (λ (l : List TaskLine). Rows (record h { tasks = l })) (sym (append-nil h.tasks))
tasks_read [] (t ∷ tasks) h none says few = absurd cc
tasks_read (row ∷ rows) [] h none says few = absurd cc
tasks_read (row ∷ rows) (t ∷ tasks) h none says few =
    let both = heads (task_of row) (Ok t) (map task_of rows) (says_tasks tasks) says in
    let more : Header = record h { tasks = h.tasks ++ t ∷ [] } in
    let room : length more.tasks + length tasks ≤ 64 = omega (arith, few, length-append h.tasks (t ∷ [])) in (
      Rows more,
      task_row h.irqs h.tasks h row t none both.0 (omega (arith, few)),
      subst (λ (l : List TaskLine). Reads (Rows more) rows (Rows (record h { tasks = l }))) (append_assoc h.tasks (t ∷ []) tasks) (tasks_read rows tasks more none both.1 room),
    )

-- an irq line
irq_words : (r : Result IrqWords Reason) (irq : IrqLine) → (r >>= (λ words. Ok (irq_line words))) ≡ Ok irq → (words : IrqWords) × (r ≡ Ok words) × (irq_line words ≡ irq)
irq_words (Ok words) irq e = (words, refl, cc)
irq_words (Err why) irq e = absurd cc

irq_added : (h : Header) (row : List ℕ) (irq : IrqLine) → irq_line_of row ≡ Ok irq → irq.task < length h.tasks → irq_refusal h.irqs irq ≡ None
    → with_irq h row ≡ Ok (Rows (record h { irqs = h.irqs ++ irq ∷ [] }))
irq_added h row irq says there follows =
    let w = irq_words (irq_of row) irq says in
    let words = w.0 in
    let task : words.task ≡ irq.task = ap (λ (i : IrqLine). i.task) w.2 in
    let inside : nat_lt words.task (length h.tasks) ≡ true = lt-ltb words.task (length h.tasks) (omega (arith, there, task)) in
    ap (λ (r : Result IrqWords Reason). r >>= add_irq h) w.1
    ∙ by_true (nat_lt words.task (length h.tasks)) (add_judged h (irq_line words) (irq_refusal h.irqs (irq_line words))) (Err reason.NoTask) inside
    ∙ ap (λ (i : IrqLine). add_judged h i (irq_refusal h.irqs i)) w.2
    ∙ ap (add_judged h irq) follows

irq_row : (irqs : List IrqLine) (tasks : List TaskLine) (h : Header) (row : List ℕ) → 0 < length tasks → has_form row (codes "task") 7 ≡ false → with_row irqs tasks h row ≡ irq_or_images h row
irq_row [] [] h row some other = absurd (omega (arith, some))
irq_row [] (task ∷ tasks) h row some other = by_false (has_form row (codes "task") 7) (with_task h row) (irq_or_images h row) other
irq_row (irq ∷ irqs) tasks h row some other = refl

is_irq_form : (row : List ℕ) (irq : IrqWords) → irq_of row ≡ Ok irq → has_form row (codes "irq") 4 ≡ true
is_irq_form row irq e = was_true (has_form row (codes "irq") 4) _ reason.NotWord irq e

irqs_read : (rows : List (List ℕ)) (irqs : List IrqLine) (h : Header) → 0 < length h.tasks → map irq_line_of rows ≡ says_irqs irqs → All (IsIrq (length h.tasks)) irqs → follow_on h.irqs irqs
    → Reads (Rows h) rows (Rows (record h { irqs = h.irqs ++ irqs }))
unfolding Reads follow_on
irqs_read [] [] h some says all follow = ap (λ (l : List IrqLine). Rows (record h { irqs = l })) (sym (append-nil h.irqs))
irqs_read [] (irq ∷ irqs) h some says all follow = absurd cc
irqs_read (row ∷ rows) [] h some says all follow = absurd cc
irqs_read (row ∷ rows) (irq ∷ irqs) h some says all (first, follow) =
    let both = heads (irq_line_of row) (Ok irq) (map irq_line_of rows) (says_irqs irqs) says in
    let w = irq_words (irq_of row) irq both.0 in
    let form = is_irq_form row w.0 w.1 in
    let one = All-head (IsIrq (length h.tasks)) irq irqs all in
    let more : Header = record h { irqs = h.irqs ++ irq ∷ [] } in (
      Rows more,
      irq_row h.irqs h.tasks h row some (no_other row (codes "irq") (codes "task") 4 7 form refl)
          ∙ by_true (has_form row (codes "irq") 4) (with_irq h row) (with_images h row) form
          ∙ irq_added h row irq both.0 one.task first,
      subst (λ (l : List IrqLine). Reads (Rows more) rows (Rows (record h { irqs = l }))) (append_assoc h.irqs (irq ∷ []) irqs)
          (irqs_read rows irqs more some both.1 (All-tail (IsIrq (length h.tasks)) irq irqs all) follow),
    )

-- the line `images`
images_read : (h : Header) (row : List ℕ) → 0 < length h.tasks → has_form row (codes "images") 1 ≡ true → with_line (Rows h) row ≡ Ok (Whole h)
images_read h row some form =
    irq_row h.irqs h.tasks h row some (no_other row (codes "images") (codes "task") 1 7 form refl)
    ∙ by_false (has_form row (codes "irq") 4) (with_irq h row) (with_images h row) (no_other row (codes "images") (codes "irq") 1 4 form refl)
    ∙ by_true (has_form row (codes "images") 1) (Ok (Whole h)) (Err reason.NotWord) form

-- the lines before the task lines
front_read : (v : Version) (harts layout branch : ℕ) (a b c : List ℕ) (more : List (List ℕ)) → version_of a ≡ Ok v → harts_of b ≡ Ok harts → layout_of c ≡ Ok layout → HasBranch v more branch
    → Reads NoLine (a ∷ b ∷ c ∷ more) (Rows (no_rows harts layout branch))
unfolding Reads
front_read version.One harts layout branch a b c more va hb lc (none, zero_is) =
    let start : Reads NoLine (a ∷ b ∷ c ∷ []) (Rows (no_rows harts layout 0)) = (
      Versioned version.One,
      ap (λ (r : Result Version Reason). r >>= (λ v. Ok (Versioned v))) va,
      (
        Counted version.One harts,
        ap (λ (r : Result ℕ Reason). r >>= (λ n. Ok (Counted version.One n))) hb,
        (
          Rows (no_rows harts layout 0),
          ap (λ (r : Result ℕ Reason). r >>= (λ l. Ok (with_layout version.One harts l))) lc,
          refl,
        ),
      ),
    ) in
    subst (λ (rows : List (List ℕ)). Reads NoLine (a ∷ b ∷ c ∷ rows) (Rows (no_rows harts layout branch))) (sym none)
    (subst (λ (word : ℕ). Reads NoLine (a ∷ b ∷ c ∷ []) (Rows (no_rows harts layout word))) (sym zero_is) start)
front_read version.Two harts layout branch a b c more va hb lc (row, one, says) =
    subst (λ (rows : List (List ℕ)). Reads NoLine (a ∷ b ∷ c ∷ rows) (Rows (no_rows harts layout branch))) (sym one) (
      Versioned version.Two,
      ap (λ (r : Result Version Reason). r >>= (λ v. Ok (Versioned v))) va,
      (
        Counted version.Two harts,
        ap (λ (r : Result ℕ Reason). r >>= (λ n. Ok (Counted version.Two n))) hb,
        (
          LaidOut harts layout,
          ap (λ (r : Result ℕ Reason). r >>= (λ l. Ok (with_layout version.Two harts l))) lc,
          (
            Rows (no_rows harts layout branch),
            ap (λ (r : Result ℕ Reason). r >>= (λ w. Ok (Rows (no_rows harts layout w)))) says,
            refl,
          ),
        ),
      ),
    )

rows_read : (rows : List (List ℕ)) (h : Header) → IsHeader h → AreRows rows h → Reads NoLine rows (Rows h)
rows_read rows h is s =
    let f = s.first in
    let empty = no_rows h.harts h.layout h.branch in
    let few : 0 + length h.tasks ≤ 64 = omega (arith, is.few) in
    let front : Reads NoLine s.front (Rows empty)
    = subst (λ (r : List (List ℕ)). Reads NoLine r (Rows empty)) (sym f.rows_are)
    (front_read f.version h.harts h.layout h.branch f.version_row f.harts_row f.layout_row f.branch_rows f.says_version f.says_harts f.says_layout f.says_branch) in
    let tasked : Header = record empty { tasks = h.tasks } in
    let tasks : Reads (Rows empty) s.task_rows (Rows tasked) = tasks_read s.task_rows h.tasks empty refl s.tasks few in
    let irqs : Reads (Rows tasked) s.irq_rows (Rows h) = irqs_read s.irq_rows h.irqs tasked (omega (arith, is.one_task)) s.irqs is.irqs is.order in
    subst (λ (r : List (List ℕ)). Reads NoLine r (Rows h)) (sym s.rows_are)
    (reads_more NoLine (Rows empty) (Rows h) s.front (s.task_rows ++ s.irq_rows) front (reads_more (Rows empty) (Rows tasked) (Rows h) s.task_rows s.irq_rows tasks irqs))

header_read : (rows : List (List ℕ)) (h : Header) → IsHeader h → AreHeaderRows rows h → Reads NoLine rows (Whole h)
unfolding Reads
header_read rows h is s =
    subst (λ (r : List (List ℕ)). Reads NoLine r (Whole h)) (sym s.rows_are)
    (reads_more NoLine (Rows h) (Whole h) s.before (s.images_row ∷ []) (rows_read s.before h is s.are) (Whole h, images_read h s.images_row (omega (arith, is.one_task)) s.images, refl))

-- the lines of a header, with what follows them, have that header
pub is_read : (text rest : List ℕ) (lines : ℕ) (h : Header) → IsGrammatical text lines h rest → IsHeader h → HasHeader text lines h rest
unfolding after
is_read text rest lines h g is =
    let nothing : after zero text ≡ Ok (NoLine, spelled g.rows ++ rest) = ap (λ (u : List ℕ). Ok (NoLine, u)) g.text_is in
    record { reads = reads_text g.rows zero lines text rest NoLine (Whole h) (omega (arith, g.count)) nothing g.are_lines (header_read g.rows h is g.are) }
