-- A header, line by line: what the code keeps tells the lines so far.
use Rattle.std.proofs.Common.{◌≡◌, ℕ, ◌+◌, List, [], ◌∷◌, ◌++◌, length, nat_lt, if◌then◌else◌, Bool, true, false, Option, None, Some, Result, Ok, Err, codes, refl, sym, ap, ◌∙◌, add-one}
use Rattle.std.proofs.lemmas.Bool.{false≢true}
use Rattle.ctr_port.specs.InHand.{text_of, Same, Of}
use Rattle.ctr_port.proofs.InHand.{of_map, of_then}
use Rattle.sched_text.specs.Lines.{LineCut, Line, Long, Open, line_at}
use Rattle.sched_text.specs.Rows.{◌>>=◌, has_form, version_of, harts_of, layout_of, branch_of, task_of, irq_of}
use Rattle.sched_text.specs.Irqs.{irq_refusal}
use Rattle.sched_text.specs.Header.{HeaderLines, NoLine, Versioned, Counted, LaidOut, Rows, Whole, no_rows, with_layout, add_task, with_task, irq_line, add_judged, add_irq, with_irq, with_images, irq_or_images, with_row, with_line, is_whole, refuse, row_cut, header_cut, next_line, after, HasHeader, HeaderBreak, IsCutOff, HeaderAnswer}
use Rattle.sched_text.specs.Progress.{start, after_layout, push_task, task_step, irq_judged, push_irq, irq_step, images_step, after_irq_step, step_at, step, row_place, progress_at, progress_of, header_of, is_done, step_cut, OneLine}
use Rattle.sched_text.specs.declared.progress.Place.{Place}
use Rattle.sched_text.specs.declared.progress.Place.TheVariants as place
use Rattle.sched_text.specs.declared.progress.Progress.{Progress}
use Rattle.sched_text.specs.declared.rows.IrqWords.{IrqWords}
use Rattle.sched_text.specs.declared.rows.Version.{Version}
use Rattle.sched_text.specs.declared.rows.Version.TheVariants as version
use Rattle.sched_text.specs.declared.schedule.Header.{Header}
use Rattle.sched_text.specs.declared.schedule.TaskLine.{TaskLine}
use Rattle.sched_text.specs.declared.schedule.IrqLine.{IrqLine}
use Rattle.sched_text.specs.declared.faults.Reason.{Reason}
use Rattle.sched_text.specs.declared.faults.Reason.TheVariants as reason
use Rattle.sched_text.specs.declared.faults.LineFault.{LineFault}
use Rattle.sched_text.specs.declared.faults.ScheduleFault.{ScheduleFault}
use Rattle.sched_text.specs.declared.faults.ScheduleFault.TheVariants as fault
use Rattle.sched_text.proofs.TextLaws.{long_given}
use Rattle.sched_text.proofs.CommandLaws.{Begins}
use Rattle.sched_text.proofs.FrontLaws.{parts}

-- what one more line comes to, by what follows it
abbrev pub Comes : ℕ → Progress → (List ℕ → Result (Progress × List ℕ) LineFault) → List ℕ → List ℕ → Type 0
Comes n p answer t t' = step_cut n p (line_at t) ≡ answer t'

pub long_line : (hand0 hand : List ℕ) (left0 left : Option (List ℕ)) (n : ℕ) (p : Progress) → Same hand0 left0 hand left → line_at hand ≡ Long
    → Of (text_of hand0 left0) (text_of hand left) (Comes n p (λ t'. refuse n reason.LongLine))
long_line hand0 hand left0 left n p same e =
    of_map (text_of hand0 left0) (text_of hand left) (λ t t'. line_at t ≡ Long) (Comes n p (λ t'. refuse n reason.LongLine))
    (long_given hand0 hand left0 left same e) (λ t t' long. ap (step_cut n p) long)

pub line_steps : (text text' : Option (List ℕ)) (n : ℕ) (p q : Progress) (w : List ℕ) → Of text text' (Begins w) → step p w ≡ Ok q → Of text text' (Comes n p (λ t'. Ok (q, t')))
line_steps text text' n p q w given e =
    of_map text text' (Begins w) (Comes n p (λ t'. Ok (q, t'))) given (λ t t' b. ap (step_cut n p) b ∙ ap (row_cut n t') e)

pub line_refused : (text text' : Option (List ℕ)) (n : ℕ) (p : Progress) (w : List ℕ) (why : Reason) → Of text text' (Begins w) → step p w ≡ Err why
    → Of text text' (Comes n p (λ t'. refuse n why))
line_refused text text' n p w why given e =
    of_map text text' (Begins w) (Comes n p (λ t'. refuse n why)) given (λ t t' b. ap (step_cut n p) b ∙ ap (row_cut n t') e)

-- an answer of the definition, as the code keeps it
abbrev kept : Result HeaderLines Reason → Result Progress Reason
kept (Ok lines) = Ok (progress_of lines)
kept (Err why) = Err why

kept_then : {A : Type 0} (r : Result A Reason) (f : A → Result Progress Reason) (g : A → Result HeaderLines Reason) → ((x : A) → f x ≡ kept (g x)) → (r >>= f) ≡ kept (r >>= g)
kept_then (Ok x) f g same = same x
kept_then (Err why) f g same = refl

kept_if : (b : Bool) (x y : Result Progress Reason) (u v : Result HeaderLines Reason) → x ≡ kept u → y ≡ kept v → (if b then x else y) ≡ kept (if b then u else v)
kept_if true x y u v e f = e
kept_if false x y u v e f = f

-- a task line is behind no irq line
task_place : (irqs : List IrqLine) (tasks : List TaskLine) (task : TaskLine) → irqs ≡ [] → row_place irqs (tasks ++ task ∷ []) ≡ place.Tasks
task_place [] [] task none = refl
task_place [] (first ∷ tasks) task none = refl
task_place (irq ∷ irqs) tasks task none = absurd cc

irq_place : (irqs : List IrqLine) (tasks : List TaskLine) (irq : IrqLine) → row_place (irqs ++ irq ∷ []) tasks ≡ place.Irqs
irq_place [] tasks irq = refl
irq_place (first ∷ irqs) tasks irq = refl

add_task_kept : (at : Place) (h : Header) (task : TaskLine) → h.irqs ≡ [] → push_task (progress_at at h) task ≡ kept (add_task h task)
add_task_kept at h task none =
    let more : Header = record h { tasks = h.tasks ++ task ∷ [] } in
    kept_if (nat_lt (length h.tasks) 64) (Ok (progress_at place.Tasks more)) (Err reason.TooMany) (Ok (Rows more)) (Err reason.TooMany)
    (ap (λ (p : Place). Ok (progress_at p more)) (sym (task_place h.irqs h.tasks task none))) refl

task_kept : (at : Place) (h : Header) (line : List ℕ) → h.irqs ≡ [] → task_step (progress_at at h) line ≡ kept (with_task h line)
task_kept at h line none = kept_then (task_of line) (push_task (progress_at at h)) (add_task h) (λ task. add_task_kept at h task none)

judged_kept : (at : Place) (h : Header) (irq : IrqLine) (why : Option Reason) → irq_judged (progress_at at h) irq why ≡ kept (add_judged h irq why)
judged_kept at h irq None =
    let more : Header = record h { irqs = h.irqs ++ irq ∷ [] } in ap (λ (p : Place). Ok (progress_at p more)) (sym (irq_place h.irqs h.tasks irq))
judged_kept at h irq (Some why) = refl

add_irq_kept : (at : Place) (h : Header) (irq : IrqWords) → push_irq (progress_at at h) irq ≡ kept (add_irq h irq)
add_irq_kept at h irq =
    let why = irq_refusal h.irqs (irq_line irq) in
    kept_if (nat_lt irq.task (length h.tasks)) (irq_judged (progress_at at h) (irq_line irq) why) (Err reason.NoTask) (add_judged h (irq_line irq) why) (Err reason.NoTask)
    (judged_kept at h (irq_line irq) why) refl

irq_kept : (at : Place) (h : Header) (line : List ℕ) → irq_step (progress_at at h) line ≡ kept (with_irq h line)
irq_kept at h line = kept_then (irq_of line) (push_irq (progress_at at h)) (add_irq h) (λ irq. add_irq_kept at h irq)

images_kept : (at : Place) (h : Header) (line : List ℕ) → images_step (progress_at at h) line ≡ kept (with_images h line)
images_kept at h line = kept_if (has_form line (codes "images") 1) (Ok (progress_at place.Images h)) (Err reason.NotWord) (Ok (Whole h)) (Err reason.NotWord) refl refl

after_irq_kept : (at : Place) (h : Header) (line : List ℕ) → after_irq_step (progress_at at h) line ≡ kept (irq_or_images h line)
after_irq_kept at h line =
    kept_if (has_form line (codes "irq") 4) (irq_step (progress_at at h) line) (images_step (progress_at at h) line) (with_irq h line) (with_images h line) (irq_kept at h line) (images_kept at h line)

rows_kept : (h : Header) (irqs : List IrqLine) (tasks : List TaskLine) (line : List ℕ) → h.irqs ≡ irqs
    → step_at (row_place irqs tasks) (progress_at (row_place irqs tasks) h) line ≡ kept (with_row irqs tasks h line)
rows_kept h [] [] line none = task_kept place.FirstTask h line none
rows_kept h [] (task ∷ tasks) line none =
    kept_if (has_form line (codes "task") 7) (task_step (progress_at place.Tasks h) line) (after_irq_step (progress_at place.Tasks h) line) (with_task h line) (irq_or_images h line)
    (task_kept place.Tasks h line none) (after_irq_kept place.Tasks h line)
rows_kept h (irq ∷ irqs) tasks line some = after_irq_kept place.Irqs h line

laid_out : (v : Version) (n b : ℕ) → ◌≡◌ {A = Result Progress Reason} (Ok (record (progress_of (Counted v n)) { layout = b; place = after_layout v })) (Ok (progress_of (with_layout v n b)))
laid_out version.One n b = refl
laid_out version.Two n b = refl

-- the code's step is the definition's
pub step_kept : (lines : HeaderLines) (line : List ℕ) → step (progress_of lines) line ≡ kept (with_line lines line)
step_kept NoLine line = kept_then (version_of line) (λ v. Ok (record start { place = place.Harts v })) (λ v. Ok (Versioned v)) (λ v. refl)
step_kept (Versioned v) line = kept_then (harts_of line) (λ n. Ok (record (progress_of (Versioned v)) { harts = n; place = place.Layout v })) (λ n. Ok (Counted v n)) (λ n. refl)
step_kept (Counted v n) line =
    kept_then (layout_of line) (λ b. Ok (record (progress_of (Counted v n)) { layout = b; place = after_layout v })) (λ b. Ok (with_layout v n b)) (λ b. laid_out v n b)
step_kept (LaidOut n b) line =
    kept_then (branch_of line) (λ w. Ok (record (progress_of (LaidOut n b)) { branch = w; place = place.FirstTask })) (λ w. Ok (Rows (no_rows n b w))) (λ w. refl)
step_kept (Rows h) line = rows_kept h h.irqs h.tasks line refl
step_kept (Whole h) line = refl

abbrev kept_cut : Result (HeaderLines × List ℕ) LineFault → Result (Progress × List ℕ) LineFault
kept_cut (Ok x) = Ok (progress_of x.0, x.1)
kept_cut (Err f) = Err f

row_kept : (n : ℕ) (rest : List ℕ) (r : Result HeaderLines Reason) → row_cut n rest (kept r) ≡ kept_cut (row_cut n rest r)
row_kept n rest (Ok lines) = refl
row_kept n rest (Err why) = refl

cut_kept : (n : ℕ) (lines : HeaderLines) (c : LineCut) → step_cut n (progress_of lines) c ≡ kept_cut (header_cut n lines c)
cut_kept n lines (Line w rest) = ap (row_cut n rest) (step_kept lines w) ∙ row_kept n rest (with_line lines w)
cut_kept n lines Long = refl
cut_kept n lines Open = refl

kept_ok : (r : Result (HeaderLines × List ℕ) LineFault) (q : Progress) (z : List ℕ) → kept_cut r ≡ Ok (q, z) → (lines : HeaderLines) × (r ≡ Ok (lines, z)) × (q ≡ progress_of lines)
kept_ok (Ok (lines, rest)) q z e = let both = parts (progress_of lines) q rest z e in (lines, ap (λ (u : List ℕ). Ok (lines, u)) both.1, sym both.0)
kept_ok (Err f) q z e = absurd cc

kept_err : (r : Result (HeaderLines × List ℕ) LineFault) (f : LineFault) → kept_cut r ≡ Err f → r ≡ Err f
kept_err (Ok x) f e = absurd cc
kept_err (Err g) f e = cc

-- n lines come to p
abbrev pub Came : ℕ → Progress → List ℕ → List ℕ → Type 0
Came n p t t' = (lines : HeaderLines) × (after n t ≡ Ok (lines, t')) × (p ≡ progress_of lines)

pub came_none : (hand : List ℕ) (left : Option (List ℕ)) → Of (text_of hand left) (text_of hand left) (Came 0 start)
unfolding after
came_none hand None = tt
came_none hand (Some xs) = (NoLine, refl, refl)

after_more : (n : ℕ) (t : List ℕ) → after (n + 1) t ≡ next_line (n + 1) (after n t)
unfolding after
after_more n t = rw (add-one n) refl

-- the lines behind a step
stepped : (n : ℕ) (p : Progress) (lines : HeaderLines) (t : List ℕ) (r : Result (Progress × List ℕ) LineFault) → p ≡ progress_of lines → step_cut n p (line_at t) ≡ r → kept_cut (header_cut n lines (line_at t)) ≡ r
stepped n p lines t r is e = sym (cut_kept n lines (line_at t)) ∙ ap (λ (q : Progress). step_cut n q (line_at t)) (sym is) ∙ e

one_more : (n : ℕ) (p q : Progress) (x y z : List ℕ) → Came n p x y → step_cut (n + 1) p (line_at y) ≡ Ok (q, z) → Came (n + 1) q x z
one_more n p q x y z (lines, reads, is) f =
    let next = kept_ok (header_cut (n + 1) lines (line_at y)) q z (stepped (n + 1) p lines y (Ok (q, z)) is f) in
    (next.0, after_more n x ∙ ap (next_line (n + 1)) reads ∙ next.1, next.2)

-- and one more line
pub came_more : (a b c : Option (List ℕ)) (n : ℕ) (p q : Progress) → Of a b (Came n p) → Of b c (Comes (n + 1) p (λ t'. Ok (q, t'))) → Of a c (Came (n + 1) q)
came_more a b c n p q came comes =
    of_then a b c (Came n p) (Comes (n + 1) p (λ t'. Ok (q, t'))) (Came (n + 1) q) came comes (λ x y z e f. one_more n p q x y z e f)

-- the header goes on
rows_go_on : (irqs : List IrqLine) (tasks : List TaskLine) → is_done (row_place irqs tasks) ≡ false
rows_go_on [] [] = refl
rows_go_on [] (task ∷ tasks) = refl
rows_go_on (irq ∷ irqs) tasks = refl

done_kept : (lines : HeaderLines) → is_done (progress_of lines).place ≡ is_whole lines
done_kept NoLine = refl
done_kept (Versioned v) = refl
done_kept (Counted v n) = refl
done_kept (LaidOut n b) = refl
done_kept (Rows h) = rows_go_on h.irqs h.tasks
done_kept (Whole h) = refl

done_by : (p : Progress) (lines : HeaderLines) (b : Bool) → p ≡ progress_of lines → is_done p.place ≡ b → is_whole lines ≡ b
done_by p lines b is e = sym (done_kept lines) ∙ ap (λ (q : Progress). is_done q.place) (sym is) ∙ e

breaks : (n : ℕ) (p : Progress) (f : LineFault) (x y : List ℕ) → Came n p x y → is_done p.place ≡ false → step_cut (n + 1) p (line_at y) ≡ Err f → HeaderBreak x f
breaks n p f x y (lines, reads, is) goes_on g = record {
  before = n;
  lines = lines;
  rest = y;
  begun = record { reads = reads; goes_on = done_by p lines false is goes_on };
  refused = kept_err (header_cut (n + 1) lines (line_at y)) f (stepped (n + 1) p lines y (Err f) is g);
}

cuts_off : (n : ℕ) (p : Progress) (x y z : List ℕ) → Came n p x y → is_done p.place ≡ false → z ≡ y → IsCutOff (n + 1) x z
cuts_off n p x y z (lines, reads, is) goes_on same =
    (n, lines, refl, record { reads = reads ∙ ap (λ (t : List ℕ). Ok (lines, t)) (sym same); goes_on = done_by p lines false is goes_on })

-- and one more line that stops the reading
pub came_stops : (f : ScheduleFault) (a b c : Option (List ℕ)) (n : ℕ) (p q : Progress) (hand : List ℕ) → Of a b (Came n p) → is_done p.place ≡ false → OneLine (n + 1) p q b c hand (Err f)
    → HeaderAnswer (n + 1) a c hand (Err f)
came_stops (fault.Line f) a b c n p q hand came goes_on stops =
    (stops.0, of_then a b c (Came n p) (Comes (n + 1) p (λ t'. Err f)) (λ t t'. HeaderBreak t f) came stops.1 (λ x y z e g. breaks n p f x y e goes_on g))
came_stops fault.ReadFault a b c n p q hand came goes_on stops =
    (stops.0, of_then a b c (Came n p) (λ t t'. t' ≡ t) (IsCutOff (n + 1)) came stops.1 (λ x y z e same. cuts_off n p x y z e goes_on same))
came_stops fault.Memory a b c n p q hand came goes_on stops = tt

-- a header is whole
whole_kept : (lines : HeaderLines) → is_whole lines ≡ true → lines ≡ Whole (header_of (progress_of lines))
whole_kept NoLine e = absurd (false≢true e)
whole_kept (Versioned v) e = absurd (false≢true e)
whole_kept (Counted v n) e = absurd (false≢true e)
whole_kept (LaidOut n b) e = absurd (false≢true e)
whole_kept (Rows h) e = absurd (false≢true e)
whole_kept (Whole h) e = refl

ends : (n : ℕ) (p : Progress) (x y : List ℕ) → Came n p x y → is_done p.place ≡ true → HasHeader x n (header_of p) y
ends n p x y (lines, reads, is) whole =
    let same : lines ≡ Whole (header_of p) = whole_kept lines (done_by p lines true is whole) ∙ ap (λ (q : Progress). Whole (header_of q)) (sym is) in
    record { reads = reads ∙ ap (λ (l : HeaderLines). Ok (l, y)) same }

pub came_ends : (a b : Option (List ℕ)) (n : ℕ) (p : Progress) → Of a b (Came n p) → is_done p.place ≡ true → Of a b (λ t t'. HasHeader t n (header_of p) t')
came_ends a b n p came whole = of_map a b (Came n p) (λ t t'. HasHeader t n (header_of p) t') came (λ t t' r. ends n p t t' r whole)
