-- How a schedule ends, told of the bytes of the source.
use Rattle.std.proofs.Common.{◌≡◌, inl, inr, refl, sym, ap, ◌∙◌, arith, ℕ, suc}
use Rattle.std.proofs.Common.{◌+◌, ◌<◌, ◌≤◌, List, [], ◌∷◌, ◌++◌, length, take, drop, add-one}
use Rattle.std.proofs.Common.{append_assoc, length-append, take-append-drop, length-take, length-take-le}
use Rattle.std.proofs.Math.Seq.{drop-append_seam, take-append_seam}
use Rattle.std.proofs.lemmas.List.{take-take}
use Rattle.std.proofs.lemmas.List.Sums.{sum_by-take-le}
use Rattle.std.proofs.lemmas.Bool.{or_right}
use Rattle.std.specs.Prelude.{Option, Some, None, Ok, Err, true}
use Rattle.ctr_port.specs.InHand.{Of, text_of}
use Rattle.ctr_port.proofs.InHand.{of_then}
use Rattle.replay_engine.specs.Breaks.{AreAllowed, HasAllowed, reason_of}
use Rattle.replay_engine.specs.Refusals.{command_refusal}
use Rattle.replay_engine.specs.Start.{plan_of}
use Rattle.replay_engine.specs.declared.fault.PerformFault.{PerformFault}
use Rattle.sched_text.specs.Commands.{command_row, command_cut, command_at, commands_after, next_command, with_command}
use Rattle.sched_text.specs.Header.{Whole, HasHeader, IsCutOff, header_cut, after}
use Rattle.sched_text.specs.Images.{IsWithin}
use Rattle.sched_text.specs.Lines.{LineCut, Line, Long, Open, line_at}
use Rattle.sched_text.specs.Outcomes.{total, IsShort, IsImage, FirstCommands}
use Rattle.sched_text.specs.Reader.{EndsAt}
use Rattle.sched_text.specs.Text.{HasCommands, ImagesBreak, has_end}
use Rattle.sched_text.specs.declared.faults.LineFault.{LineFault}
use Rattle.sched_text.specs.declared.faults.Reason.TheVariants as reason
use Rattle.sched_text.specs.declared.schedule.Command.{Command}
use Rattle.sched_text.specs.declared.schedule.Command.TheVariants as command
use Rattle.sched_text.specs.declared.schedule.Header.{Header}
use Rattle.sched_text.specs.declared.schedule.TaskLine.{TaskLine}
use Rattle.sched_text.proofs.FrontLaws.{line_lone, after_front, commands_front, end_more, nothing_behind}
use Rattle.ctrsim_cli.specs.Parts.{HasImages, Begins}
use Rattle.ctrsim_cli.specs.Says.{AreImages, IsAcceptedAs, IsRefusedAfter, IsTakenTo, IsCutBefore, IsCutAfter, Took}
use Rattle.ctrsim_cli.specs.Schedule.{Schedule}
use Rattle.ctrsim_cli.proofs.PerformLaws.{allowed_more}

-- from a text with nothing in hand to the bytes of the source
pub bare : (hand : List ℕ) (left left' : Option (List ℕ)) (P Q : List ℕ → List ℕ → Type 0) → Of (text_of [] left) (text_of hand left') P → ((b b' : List ℕ) → P b (hand ++ b') → Q b b') → Of left left' Q
bare hand None left' P Q h f = tt
bare hand (Some b) None P Q h f = absurd h
bare hand (Some b) (Some b') P Q h f = f b b' h

-- a read failed in the header
pub header_cut_off : (line : ℕ) (hand b b' : List ℕ) → line_at hand ≡ Open → IsCutOff line b (hand ++ b') → Took IsCutBefore b b'
header_cut_off line hand b b' open_ (n, p, is, begun) =
    let f = after_front n b (hand ++ b') p begun.reads in
    let fault : LineFault = record { line = n + 1; reason = reason.Cut } in (
      f.0 ++ hand,
      f.1 ∙ sym (append_assoc f.0 hand b'),
      (fault, refl, inl (record { before = n; lines = p; rest = hand; begun = record { reads = f.2 hand; goes_on = begun.goes_on }; refused = ap (header_cut (n + 1) p) open_ })),
    )

-- the text is too short for its images
pub images_short : (line : ℕ) (h : Header) (f : LineFault) (t rest : List ℕ) → HasHeader t line h rest → IsShort line (total h.tasks) f rest → ImagesBreak t f
images_short line h f t rest has short = record { lines = line; progress = h; rest = rest; header = has; short = short.0; fault = short.1 }

-- a read failed in the images
pub images_cut_off : (line : ℕ) (h : Header) (b b' rest : List ℕ) → HasHeader b line h rest → IsWithin (total h.tasks) rest b' → Took IsCutBefore b b'
images_cut_off line h b b' rest has (n, few, left) =
    let f = after_front line b rest (Whole h) has.reads in
    let part = take n rest in
    let fault : LineFault = record { line = line; reason = reason.Cut } in
    let short : length part < total h.tasks = omega (arith, few, length-take n rest) in (
      f.0 ++ part,
      f.1 ∙ ap (λ (u : List ℕ). f.0 ++ u) (sym (take-append-drop n rest) ∙ ap (λ (u : List ℕ). part ++ u) (sym left)) ∙ sym (append_assoc f.0 part b'),
      (fault, refl, inr (images_short line h fault (f.0 ++ part) part (record { reads = f.2 part }) (short, refl))),
    )

-- the commands behind header and images
abbrev pub has_commands : (line count : ℕ) (h : Header) (images : List (List ℕ)) (cs : List Command) (t m k : List ℕ) → Begins line h images t m → commands_after count line m ≡ Ok (cs, k) → HasCommands t line count cs k
has_commands line count h images cs t m k b reads =
    record { progress = h; rest = b.rest; header = b.header; images = b.there.behind.0; reads = ap (commands_after count line) (sym b.there.behind.1) ∙ reads }

pub are_images : (line : ℕ) (h : Header) (images : List (List ℕ)) (t m : List ℕ) → Begins line h images t m → length images ≡ length h.tasks → AreImages t h images
are_images line h images t m b size = record {
  size = size;
  each = λ i image e. let is : IsImage h.tasks i image b.rest = b.there.each i image e in
      record { lines = line; progress = h; rest = b.rest; header = b.header; there = is.0; whole = is.1; bytes = is.2 };
}

-- one more command behind others
pub reads_more : (line count : ℕ) (cs : List Command) (c : Command) (m k rest : List ℕ) → commands_after count line m ≡ Ok (cs, k) → command_at (line + (count + 1)) count k ≡ Ok (c, rest)
    → commands_after (suc count) line m ≡ Ok (cs ++ c ∷ [], rest)
unfolding commands_after
reads_more line count cs c m k rest given next = ap (next_command (line + suc count) count) given ∙ ap (with_command cs) (rw (add-one count) at next)

abbrev pub has_more : (line count : ℕ) (h : Header) (images : List (List ℕ)) (cs : List Command) (c : Command) (t m k rest : List ℕ) → Begins line h images t m → commands_after count line m ≡ Ok (cs, k)
    → command_at (line + (count + 1)) count k ≡ Ok (c, rest) → AreAllowed (plan_of h) cs → command_refusal (plan_of h) cs c ≡ None → HasAllowed t line (suc count) (cs ++ c ∷ []) rest
has_more line count h images cs c t m k rest b given next allowed fits = record {
  has = has_commands line (suc count) h images (cs ++ c ∷ []) t m rest b (reads_more line count cs c m k rest given next);
  allowed = allowed_more (plan_of h) [] cs c allowed fits;
}

abbrev pub schedule : Header → List (List ℕ) → List Command → Schedule
schedule h images cs = record { header = h; images = images; commands = cs }

-- `end` came
pub accepted_as : (line count : ℕ) (h : Header) (images : List (List ℕ)) (cs : List Command) (t m k rest : List ℕ) → length images ≡ length h.tasks → Begins line h images t m → FirstCommands line count cs m k
    → AreAllowed (plan_of h) cs → command_at (line + (count + 1)) count k ≡ Ok (command.End, rest) → (rest ≡ []) × IsAcceptedAs t (schedule h images cs)
accepted_as line count h images cs t m k rest size b given allowed next = (
  nothing_behind (line + (count + 1)) count k rest next,
  record {
    accepted = record {
      lines = line;
      count = suc count;
      behind = rest;
      whole = has_more line count h images cs command.End t m k rest b given.0 next allowed refl;
      ends = end_more cs command.End ∙ or_right (has_end cs) true refl;
    };
    header = refl;
    images = are_images line h images t m b size;
  },
)

-- the next line is refused by its text
pub refused_by_text : (line count : ℕ) (h : Header) (images : List (List ℕ)) (cs : List Command) (t m k : List ℕ) (f : LineFault) → length images ≡ length h.tasks → Begins line h images t m → FirstCommands line count cs m k
    → AreAllowed (plan_of h) cs → command_at (line + (count + 1)) count k ≡ Err f → IsRefusedAfter t (schedule h images cs) f
refused_by_text line count h images cs t m k f size b given allowed next = record {
  refused = record {
    lines = line;
    count = count;
    commands = cs;
    behind = k;
    before = record { has = has_commands line count h images cs t m k b given.0; allowed = allowed };
    refused = inl (record { goes_on = given.1; refused = next });
  };
  header = refl;
  commands = refl;
  images = are_images line h images t m b size;
}

-- or because of what the commands before it left
pub refused_by_place : (line count : ℕ) (h : Header) (images : List (List ℕ)) (cs : List Command) (t m k rest : List ℕ) (f : LineFault) (c : Command) (why : PerformFault) → length images ≡ length h.tasks → Begins line h images t m → FirstCommands line count cs m k
    → AreAllowed (plan_of h) cs → command_at (line + (count + 1)) count k ≡ Ok (c, rest) → command_refusal (plan_of h) cs c ≡ Some why → reason_of why ≡ Some f.reason → f.line ≡ line + (count + 1) → IsRefusedAfter t (schedule h images cs) f
refused_by_place line count h images cs t m k rest f c why size b given allowed next refused named number = record {
  refused = record {
    lines = line;
    count = count;
    commands = cs;
    behind = k;
    before = record { has = has_commands line count h images cs t m k b given.0; allowed = allowed };
    refused = inr (record {
      command = c;
      rest = rest;
      why = why;
      reason = f.reason;
      reads = next;
      refused = refused;
      named = named;
      fault = ap (λ (n : ℕ). record { line = n; reason = f.reason }) number;
    });
  };
  header = refl;
  commands = refl;
  images = are_images line h images t m b size;
}

-- what stands in front of a text stands in front of another with the same front
take_front : (xs ys : List ℕ) (n : ℕ) → length xs ≡ n → take n (xs ++ ys) ≡ xs
take_front xs ys n size = ap (λ (k : ℕ). take k (xs ++ ys)) (sym size) ∙ take-append_seam xs ys

image_stays : (tasks : List TaskLine) (i : ℕ) (image rest rest' : List ℕ) → take (total tasks) rest' ≡ take (total tasks) rest → total tasks ≤ length rest'
    → IsImage tasks i image rest → IsImage tasks i image rest'
image_stays tasks i image rest rest' same fits is =
    let b = total (take (i + 1) tasks) in
    let within : b ≤ total tasks = sum_by-take-le (λ (t : TaskLine). t.image) tasks (i + 1) in
    let alike : take b rest ≡ take b rest' = sym (take-take b (total tasks) rest within) ∙ ap (take b) (sym same) ∙ take-take b (total tasks) rest' within in
    (is.0, omega (arith, within, fits), is.2 ∙ ap (drop (total (take i tasks))) alike)

-- header, images and commands stand in any text that goes on after them
pub front : (line n : ℕ) (h : Header) (images : List (List ℕ)) (cs : List Command) (t m k : List ℕ) → Begins line h images t m → FirstCommands line n cs m k
    → (x : List ℕ) × (t ≡ x ++ k) × ((v : List ℕ) → (u : List ℕ) × Begins line h images (x ++ v) u × FirstCommands line n cs u v)
front line n h images cs t m k b given =
    let len = total h.tasks in
    let rest = b.rest in
    let f = after_front line t rest (Whole h) b.header.reads in
    let g = commands_front n line m k cs given.1 given.0 in
    let bytes = take len rest in
    let size : length bytes ≡ len = length-take-le len rest b.there.behind.0 in
    let x = f.0 ++ (bytes ++ g.0) in
    let at : (v : List ℕ) → f.0 ++ (bytes ++ (g.0 ++ v)) ≡ x ++ v
    = λ v. ap (λ (u : List ℕ). f.0 ++ u) (sym (append_assoc bytes g.0 v)) ∙ sym (append_assoc f.0 (bytes ++ g.0) v) in (
      x,
      f.1 ∙ ap (λ (u : List ℕ). f.0 ++ u) (sym (take-append-drop len rest) ∙ ap (λ (u : List ℕ). bytes ++ u) (sym b.there.behind.1 ∙ g.1)) ∙ at k,
      λ v. (
        g.0 ++ v,
        record {
          rest = bytes ++ (g.0 ++ v);
          header = record { reads = ap (after line) (sym (at v)) ∙ f.2 (bytes ++ (g.0 ++ v)) };
          there = record {
            behind = (
              omega (arith, size, length-append bytes (g.0 ++ v)),
              sym (drop-append_seam bytes (g.0 ++ v)) ∙ ap (λ (j : ℕ). drop j (bytes ++ (g.0 ++ v))) size,
            );
            each = λ i image e. image_stays h.tasks i image rest (bytes ++ (g.0 ++ v)) (take_front bytes (g.0 ++ v) len size) (omega (arith, size, length-append bytes (g.0 ++ v))) (b.there.each i image e);
          };
        },
        (g.2 v, given.1),
      ),
    )

-- a read failed where a command was looked for
pub command_cut_off : (line n : ℕ) (h : Header) (images : List (List ℕ)) (cs : List Command) (hand b b' m : List ℕ) → length images ≡ length h.tasks → line_at hand ≡ Open → Begins line h images b m
    → FirstCommands line n cs m (hand ++ b') → AreAllowed (plan_of h) cs → Took (λ t. IsCutAfter t (schedule h images cs)) b b'
command_cut_off line n h images cs hand b b' m size open_ begins given allowed =
    let f = front line n h images cs b m (hand ++ b') begins given in
    let fault : LineFault = record { line = line + (n + 1); reason = reason.Cut } in
    let here = f.2 hand in (
      f.0 ++ hand,
      f.1 ∙ sym (append_assoc f.0 hand b'),
      inr (fault, refl, refused_by_text line n h images cs (f.0 ++ hand) here.0 hand fault size here.1 here.2 allowed (ap (command_cut (line + (n + 1)) n) open_)),
    )

-- and where the end was looked for behind `end`
ends_at : (line count : ℕ) (s rest : List ℕ) (k : LineCut) → line_at s ≡ k → EndsAt k rest → (y : List ℕ) × (s ≡ y ++ rest) × (command_at line count y ≡ Ok (command.End, []))
ends_at line count s rest (Line w r) is (row, same) =
    let lone = line_lone s w r is in
    let lf : List ℕ = 10 ∷ [] in (
      w ++ lf,
      lone.0 ∙ ap (λ (t : List ℕ). w ++ 10 ∷ t) same ∙ sym (append_assoc w lf rest),
      ap (command_cut line count) (lone.1 []) ∙ ap (command_row line count []) row,
    )
ends_at line count s rest Long is e = absurd e
ends_at line count s rest Open is e = absurd e

pub end_cut_off : (line n : ℕ) (h : Header) (images : List (List ℕ)) (cs : List Command) (b b' m k : List ℕ) → length images ≡ length h.tasks → Begins line h images b m → FirstCommands line n cs m k
    → AreAllowed (plan_of h) cs → EndsAt (line_at k) b' → Took (λ t. IsCutAfter t (schedule h images cs)) b b'
end_cut_off line n h images cs b b' m k size begins given allowed ends =
    let f = front line n h images cs b m k begins given in
    let e = ends_at (line + (n + 1)) n k b' (line_at k) refl ends in
    let here = f.2 e.0 in (
      f.0 ++ e.0,
      f.1 ∙ ap (λ (u : List ℕ). f.0 ++ u) e.1 ∙ sym (append_assoc f.0 e.0 b'),
      inl (accepted_as line n h images cs (f.0 ++ e.0) here.0 e.0 [] size here.1 here.2 allowed e.2).1,
    )

-- the command whose sample failed
pub taken_to : (line n : ℕ) (h : Header) (images : List (List ℕ)) (cs : List Command) (c : Command) (hand b b' m k : List ℕ) → length images ≡ length h.tasks → Begins line h images b m → FirstCommands line n cs m k
    → AreAllowed (plan_of h) cs → command_refusal (plan_of h) cs c ≡ None → command_at (line + (n + 1)) n k ≡ Ok (c, hand ++ b') → length hand < 4096 → IsTakenTo b b' (schedule h images cs) c
taken_to line n h images cs c hand b b' m k size begins given allowed fits next near = record {
  lines = line;
  count = suc n;
  behind = hand ++ b';
  ahead = hand;
  left = refl;
  begins = has_more line n h images cs c b m k (hand ++ b') begins given.0 next allowed fits;
  header = refl;
  images = are_images line h images b m begins size;
  near = near;
}

-- header and images, one call after another
pub begins : (line : ℕ) (h : Header) (images : List (List ℕ)) (a b c : Option (List ℕ)) → Of a b (λ t t'. HasHeader t line h t') → Of b c (HasImages h.tasks images (total h.tasks)) → Of a c (Begins line h images)
begins line h images a b c has there =
    of_then a b c (λ t t'. HasHeader t line h t') (HasImages h.tasks images (total h.tasks)) (Begins line h images) has there (λ x y z p q. record { rest = y; header = p; there = q })
