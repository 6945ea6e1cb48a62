-- How reading a whole schedule ends. The crates above cite the lemmas that are `pub`, to say of their
-- own calls how a schedule ends.
use Rattle.std.proofs.Common.{◌≡◌, ◌⊎◌, inl, inr, ℕ, zero, suc, ◌+◌, ◌<◌, ◌≤◌, List, [], ◌∷◌, ◌++◌, length, take, drop, true, false, Option, None, Some, Result, Ok, Err, refl, sym, ap, ◌∙◌, subst, arith, add-one, append_assoc, length-append, take-append-drop, length-take, length-take-le}
use Rattle.std.proofs.Math.Seq.{drop-append_seam}
use Rattle.std.proofs.lemmas.Bool.{or_right}
use Rattle.ctr_port.specs.InHand.{Of, text_of}
use Rattle.ctr_port.proofs.InHand.{of_map, of_then}
use Rattle.sched_text.proofs.WholeLaws.{whole_or_broken}
use Rattle.sched_text.specs.Lines.{LineCut, Line, Long, Open, line_at}
use Rattle.sched_text.specs.Header.{header_cut, after}
use Rattle.sched_text.specs.Header.{Whole, HeaderAnswer, HasHeader, HeaderBreak, IsCutOff}
use Rattle.sched_text.specs.Images.{IsWithin}
use Rattle.sched_text.specs.Commands.{command_row, command_cut, command_at, commands_after, next_command, with_command}
use Rattle.sched_text.specs.Reader.{EndsAt}
use Rattle.sched_text.specs.Text.{TextBreak, HasCommands, HasImage, IsWhole, has_end}
use Rattle.sched_text.specs.declared.schedule.Header.{Header}
use Rattle.sched_text.specs.declared.schedule.Command.{Command}
use Rattle.sched_text.specs.declared.schedule.Command.TheVariants as command
use Rattle.sched_text.specs.declared.faults.LineFault.{LineFault}
use Rattle.sched_text.specs.declared.faults.Reason.TheVariants as reason
use Rattle.sched_text.specs.declared.faults.ScheduleFault.{ScheduleFault}
use Rattle.sched_text.specs.declared.faults.ScheduleFault.TheVariants as fault
use Rattle.sched_text.specs.Outcomes.{Opened, IsWholeOrCut, TextOutcome, total, IsBehind, IsShort, ImagesAnswer, FirstCommands, HasFirstCommands, BehindCommands, CommandsAnswer, SomeCommandsAnswer, HasReadCommands, IsWholeWithin, LineOutcome, IsImage, TaskImageAnswer, HasNoTask, ImageOutcome}
use Rattle.sched_text.proofs.FrontLaws.{line_lone, after_front, commands_front, end_more, nothing_behind}

-- from a text with nothing in hand to the bytes of the source
pub bare : (hand : List ℕ) (left left' : Option (List ℕ)) (P Q : List ℕ → List ℕ → Type 0) → Of (text_of [] left) (text_of hand left') P → ((b b' : List ℕ) → P b (hand ++ b') → Q b b') → Of left left' Q
bare hand None left' P Q h f = tt
bare hand (Some b) None P Q h f = absurd h
bare hand (Some b) (Some b') P Q h f = f b b' h

-- the bytes taken are whole, or cut at their end
abbrev pub TakenSo : List ℕ → List ℕ → Type 0
TakenSo b b' = (t : List ℕ) × (b ≡ t ++ b') × IsWholeOrCut t

-- a read failed within the header
head_cut : (line : ℕ) (hand b b' : List ℕ) → line_at hand ≡ Open → IsCutOff line b (hand ++ b') → TakenSo b b'
head_cut line hand b b' open_ (n, p, is, begun) =
    let f = after_front n b (hand ++ b') p begun.reads in
    let fault : LineFault = record { line = n + 1; reason = reason.Cut } in (
      f.0 ++ hand,
      f.1 ∙ sym (append_assoc f.0 hand b'),
      inr (fault, refl, inl (record { before = n; lines = p; rest = hand; begun = record { reads = f.2 hand; goes_on = begun.goes_on }; refused = ap (header_cut (n + 1) p) open_ })),
    )

-- the header's fault is that of the text
pub head_stops : (f : ScheduleFault) (line : ℕ) (hand : List ℕ) (left left' : Option (List ℕ)) → HeaderAnswer line (text_of [] left) (text_of hand left') hand (Err f) → TextOutcome left left' (Err f)
head_stops (fault.Line f) line hand left left' h = bare hand left left' (λ t t'. HeaderBreak t f) (λ b b'. TextBreak b f) h.1 (λ b b' s. inl s)
head_stops fault.ReadFault line hand left left' h = bare hand left left' (IsCutOff line) TakenSo h.1 (λ b b' s. head_cut line hand b b' h.0 s)
head_stops fault.Memory line hand left left' h = tt

-- the header was read
abbrev pub Begun : ℕ → Header → List ℕ → List ℕ → Type 0
Begun line h t t' = HasHeader t line h t'

images_short : (line : ℕ) (h : Header) (f : LineFault) (t rest : List ℕ) → Begun line h t rest → IsShort line (total h.tasks) f rest → TextBreak t f
images_short line h f t rest has short = inr (inl (record { lines = line; progress = h; rest = rest; header = has; short = short.0; fault = short.1 }))

images_cut : (line : ℕ) (h : Header) (b b' rest : List ℕ) → Begun line h b rest → IsWithin (total h.tasks) rest b' → TakenSo b b'
images_cut line h b b' rest has (n, few, left) =
    let f = after_front line b rest (Whole h) has.reads in
    let part = take n rest in
    let fault : LineFault = record { line = line; reason = reason.Cut } in
    let short : length part < total h.tasks = omega (arith, few, length-take n rest) in (
      f.0 ++ part,
      f.1 ∙ ap (λ (u : List ℕ). f.0 ++ u) (sym (take-append-drop n rest) ∙ ap (λ (u : List ℕ). part ++ u) (sym left)) ∙ sym (append_assoc f.0 part b'),
      inr (fault, refl, images_short line h fault (f.0 ++ part) part (record { reads = f.2 part }) (short, refl)),
    )

-- the images' fault is that of the text
pub images_stop : (f : ScheduleFault) (line : ℕ) (h : Header) (hand : List ℕ) (left mid left' : Option (List ℕ)) → Of (text_of [] left) mid (Begun line h) → ImagesAnswer line (total h.tasks) mid (text_of hand left') hand (Err f)
    → TextOutcome left left' (Err f)
images_stop (fault.Line f) line h hand left mid left' has stops =
    bare hand left left' (λ t t'. TextBreak t f) (λ b b'. TextBreak b f)
    (of_then (text_of [] left) mid (text_of hand left') (Begun line h) (λ t t'. IsShort line (total h.tasks) f t) (λ t t'. TextBreak t f) has stops (λ x y z p q. images_short line h f x y p q))
    (λ b b' s. s)
images_stop fault.ReadFault line h hand left mid left' has stops =
    bare hand left left' TakenSo TakenSo
    (of_then (text_of [] left) mid (text_of hand left') (Begun line h) (IsWithin (total h.tasks)) TakenSo has stops.1 (λ x y z p q. images_cut line h x z y p q))
    (λ b b' s. subst (λ (u : List ℕ). TakenSo b (u ++ b')) stops.0 s)
images_stop fault.Memory line h hand left mid left' has stops = tt

-- header and images were read
pub opened : (line : ℕ) (h : Header) (a b c : Option (List ℕ)) → Of a b (Begun line h) → Of b c (IsBehind (total h.tasks)) → Of a c (Opened line h)
opened line h a b c has passed = of_then a b c (Begun line h) (IsBehind (total h.tasks)) (Opened line h) has passed (λ x y z p q. (y, p, q))

-- and so were these commands
pub has_commands : (line count : ℕ) (h : Header) (cs : List Command) (t m middle : List ℕ) → Opened line h t m → commands_after count line m ≡ Ok (cs, middle) → HasCommands t line count cs middle
has_commands line count h cs t m middle o reads =
    record { progress = h; rest = o.0; header = o.1; images = o.2.0; reads = ap (commands_after count line) (sym o.2.1) ∙ reads }

-- `end` after commands
reads_end : (line count : ℕ) (cs : List Command) (m middle rest : List ℕ) → commands_after count line m ≡ Ok (cs, middle) → command_at (line + (count + 1)) count middle ≡ Ok (command.End, rest)
    → commands_after (suc count) line m ≡ Ok (cs ++ command.End ∷ [], rest)
unfolding commands_after
reads_end line count cs m middle rest given next = ap (next_command (line + suc count) count) given ∙ ap (with_command cs) (rw (add-one count) at next)

whole_text : (line count : ℕ) (h : Header) (cs : List Command) (t m middle rest : List ℕ) → Opened line h t m → commands_after count line m ≡ Ok (cs, middle)
    → command_at (line + (count + 1)) count middle ≡ Ok (command.End, rest) → IsWhole t (cs ++ command.End ∷ [])
whole_text line count h cs t m middle rest o given next = record {
  lines = line;
  count = suc count;
  behind = rest;
  has = has_commands line (suc count) h (cs ++ command.End ∷ []) t m rest o (reads_end line count cs m middle rest given next);
  ends = end_more cs command.End ∙ or_right (has_end cs) true refl;
}

empty_back : (xs ys : List ℕ) → xs ++ ys ≡ [] → ys ≡ []
empty_back [] ys e = e
empty_back (x ∷ xs) ys e = absurd cc

commands_whole : (line : ℕ) (h : Header) (t m rest : List ℕ) → Opened line h t m → BehindCommands line (λ n k. command_at (line + (n + 1)) n k ≡ Ok (command.End, rest)) m
    → (rest ≡ []) × ((commands : List Command) × IsWhole t commands)
commands_whole line h t m rest o (n, cs, k, given, next) =
    (nothing_behind (line + (n + 1)) n k rest next, (cs ++ command.End ∷ [], whole_text line n h cs t m k rest o given.0 next))

commands_break : (line : ℕ) (h : Header) (f : LineFault) (t m : List ℕ) → Opened line h t m → BehindCommands line (λ n k. command_at (line + (n + 1)) n k ≡ Err f) m → TextBreak t f
commands_break line h f t m o (n, cs, k, given, next) =
    inr (inr (record { lines = line; count = n; commands = cs; behind = k; begun = has_commands line n h cs t m k o given.0; goes_on = given.1; refused = next }))

-- header, images and commands stand in any text that goes on after them
pub opened_front : (line n : ℕ) (h : Header) (cs : List Command) (t m k : List ℕ) → Opened line h t m → FirstCommands line n cs m k
    → (x : List ℕ) × (t ≡ x ++ k) × ((v : List ℕ) → (u : List ℕ) × Opened line h (x ++ v) u × (commands_after n line u ≡ Ok (cs, v)))
opened_front line n h cs t m k o given =
    let len = total h.tasks in
    let rest = o.0 in
    let f = after_front line t rest (Whole h) o.1.reads in
    let g = commands_front n line m k cs given.1 given.0 in
    let images = take len rest in
    let size : length images ≡ len = length-take-le len rest o.2.0 in
    let x = f.0 ++ (images ++ g.0) in
    let at : (v : List ℕ) → f.0 ++ (images ++ (g.0 ++ v)) ≡ x ++ v
    = λ v. ap (λ (u : List ℕ). f.0 ++ u) (sym (append_assoc images g.0 v)) ∙ sym (append_assoc f.0 (images ++ g.0) v) in (
      x,
      f.1 ∙ ap (λ (u : List ℕ). f.0 ++ u) (sym (take-append-drop len rest) ∙ ap (λ (u : List ℕ). images ++ u) (sym o.2.1 ∙ g.1)) ∙ at k,
      λ v. (
        g.0 ++ v,
        (
          images ++ (g.0 ++ v),
          record { reads = ap (after line) (sym (at v)) ∙ f.2 (images ++ (g.0 ++ v)) },
          (
            omega (arith, size, length-append images (g.0 ++ v)),
            sym (drop-append_seam images (g.0 ++ v)) ∙ ap (λ (j : ℕ). drop j (images ++ (g.0 ++ v))) size,
          ),
        ),
        g.2 v,
      ),
    )

-- a read failed where a command was looked for
pub command_cut_off : (line n : ℕ) (h : Header) (cs : List Command) (hand b b' m : List ℕ) → line_at hand ≡ Open → Opened line h b m → FirstCommands line n cs m (hand ++ b') → TakenSo b b'
command_cut_off line n h cs hand b b' m open_ o given =
    let f = opened_front line n h cs b m (hand ++ b') o given in
    let fault : LineFault = record { line = line + (n + 1); reason = reason.Cut } in
    let here = f.2 hand in (
      f.0 ++ hand,
      f.1 ∙ sym (append_assoc f.0 hand b'),
      inr (fault, refl, commands_break line h fault (f.0 ++ hand) here.0 here.1 (n, cs, hand, (here.2, given.1), ap (command_cut (line + (n + 1)) n) open_)),
    )

-- and where the end was looked for behind `end`
ends_at : (line count : ℕ) (s rest : List ℕ) (k : LineCut) → line_at s ≡ k → EndsAt k rest → (y : List ℕ) × (s ≡ y ++ rest) × (command_at line count y ≡ Ok (command.End, []))
ends_at line count s rest (Line w r) is (row, same) =
    let lone = line_lone s w r is in
    let lf : List ℕ = 10 ∷ [] in (
      w ++ lf,
      lone.0 ∙ ap (λ (t : List ℕ). w ++ 10 ∷ t) same ∙ sym (append_assoc w lf rest),
      ap (command_cut line count) (lone.1 []) ∙ ap (command_row line count []) row,
    )
ends_at line count s rest Long is e = absurd e
ends_at line count s rest Open is e = absurd e

-- a read failed behind `end`
pub end_cut_off : (line n : ℕ) (h : Header) (cs : List Command) (b b' m k : List ℕ) → Opened line h b m → FirstCommands line n cs m k → EndsAt (line_at k) b' → TakenSo b b'
end_cut_off line n h cs b b' m k o given ends =
    let f = opened_front line n h cs b m k o given in
    let e = ends_at (line + (n + 1)) n k b' (line_at k) refl ends in
    let here = f.2 e.0 in (
      f.0 ++ e.0,
      f.1 ∙ ap (λ (u : List ℕ). f.0 ++ u) e.1 ∙ sym (append_assoc f.0 e.0 b'),
      inl (cs ++ command.End ∷ [], whole_text line n h cs (f.0 ++ e.0) here.0 e.0 [] here.1 here.2 e.2),
    )

commands_taken : (line : ℕ) (h : Header) (hand b b' m : List ℕ) → line_at hand ≡ Open → Opened line h b m → BehindCommands line (λ n k. ((hand ++ b') ≡ k) ⊎ ((hand ≡ []) × EndsAt (line_at k) (hand ++ b'))) m → TakenSo b b'
commands_taken line h hand b b' m open_ o (n, cs, k, given, inl same) = command_cut_off line n h cs hand b b' m open_ o (subst (λ (u : List ℕ). FirstCommands line n cs m u) (sym same) given)
commands_taken line h hand b b' m open_ o (n, cs, k, given, inr ends) = end_cut_off line n h cs b b' m k o given (subst (λ (u : List ℕ). EndsAt (line_at k) (u ++ b')) ends.0 ends.1)

-- the commands' answer is that of the text
pub commands_end : (r : Result (Unit {0}) ScheduleFault) (line : ℕ) (h : Header) (hand : List ℕ) (left mid left' : Option (List ℕ)) → Of (text_of [] left) mid (Opened line h) → CommandsAnswer line mid (text_of hand left') hand r
    → TextOutcome left left' r
commands_end (Ok u) line h hand left mid left' o ends =
    bare hand left left' (λ t t'. (t' ≡ []) × ((commands : List Command) × IsWhole t commands)) (λ b b'. (b' ≡ []) × ((commands : List Command) × IsWhole b commands))
    (of_then (text_of [] left) mid (text_of hand left') (Opened line h) (λ t t'. BehindCommands line (λ n k. command_at (line + (n + 1)) n k ≡ Ok (command.End, t')) t)
    (λ t t'. (t' ≡ []) × ((commands : List Command) × IsWhole t commands)) o ends (λ x y z p q. commands_whole line h x y z p q))
    (λ b b' s. (empty_back hand b' s.0, s.1))
commands_end (Err (fault.Line f)) line h hand left mid left' o ends =
    bare hand left left' (λ t t'. TextBreak t f) (λ b b'. TextBreak b f)
    (of_then (text_of [] left) mid (text_of hand left') (Opened line h) (λ t t'. BehindCommands line (λ n k. command_at (line + (n + 1)) n k ≡ Err f) t) (λ t t'. TextBreak t f) o ends (λ x y z p q. commands_break line h f x y p q))
    (λ b b' s. s)
commands_end (Err fault.ReadFault) line h hand left mid left' o ends =
    bare hand left left' (λ t t'. (m : List ℕ) × Opened line h t m × BehindCommands line (λ n k. (t' ≡ k) ⊎ ((hand ≡ []) × EndsAt (line_at k) t')) m) TakenSo
    (of_then (text_of [] left) mid (text_of hand left') (Opened line h) (λ t t'. BehindCommands line (λ n k. (t' ≡ k) ⊎ ((hand ≡ []) × EndsAt (line_at k) t')) t)
    (λ t t'. (m : List ℕ) × Opened line h t m × BehindCommands line (λ n k. (t' ≡ k) ⊎ ((hand ≡ []) × EndsAt (line_at k) t')) m) o ends.1 (λ x y z p q. (y, p, q)))
    (λ b b' s. commands_taken line h hand b b' s.0 ends.0 s.1 s.2)
commands_end (Err fault.Memory) line h hand left mid left' o ends = tt

pub halts_so : (line most line' : ℕ) (h : Header) (hand : List ℕ) (left mid left' : Option (List ℕ)) → Of (text_of [] left) mid (Opened line h) → SomeCommandsAnswer line most mid (text_of hand left') hand line' (Ok false) → HasReadCommands left left' line' most
halts_so line most line' h hand left mid left' o halts =
    bare hand left left' (λ t t'. (cs : List Command) × HasCommands t line most cs t' × (has_end cs ≡ false))
    (λ b b'. (lines : ℕ) × (cs : List Command) × (behind : List ℕ) × HasCommands b lines most cs behind × (has_end cs ≡ false) × (line' ≡ lines + most) × (length behind < length b' + 4096))
    (of_then (text_of [] left) mid (text_of hand left') (Opened line h) (HasFirstCommands line most) (λ t t'. (cs : List Command) × HasCommands t line most cs t' × (has_end cs ≡ false)) o halts.0
    (λ x y z p q. (q.0, has_commands line most h q.0 x y z p q.1.0, q.1.1)))
    (λ b b' s. (line, s.0, hand ++ b', s.1, s.2, halts.2, omega (arith, length-append hand b', halts.1)))

-- as many commands as there are
length_joined : (y : List Command × List ℕ) (r : Result (Command × List ℕ) LineFault) (n : ℕ) (x : List Command × List ℕ) → length y.0 ≡ n → with_command y.0 r ≡ Ok x → length x.0 ≡ suc n
length_joined y (Err f) n x len e = absurd cc
length_joined y (Ok z) n x len e =
    let same : ◌≡◌ {A = List Command × List ℕ} (y.0 ++ z.0 ∷ [], z.1) x = cc in
    let more : length (y.0 ++ z.0 ∷ []) ≡ length x.0 = ap (λ (w : List Command × List ℕ). length w.0) same in
    omega (arith, more, length-append y.0 (z.0 ∷ []), len)

length_by : (r : Result (List Command × List ℕ) LineFault) (line n : ℕ) (x : List Command × List ℕ) → ((y : List Command × List ℕ) → r ≡ Ok y → length y.0 ≡ n) → next_command line n r ≡ Ok x → length x.0 ≡ suc n
length_by (Err f) line n x before e = absurd cc
length_by (Ok y) line n x before e = length_joined y (command_at line n y.1) n x (before y refl) e

pub length_commands : (n base : ℕ) (t : List ℕ) (x : List Command × List ℕ) → commands_after n base t ≡ Ok x → length x.0 ≡ n
unfolding commands_after
length_commands zero base t x e =
    let same : ◌≡◌ {A = List Command × List ℕ} ([], t) x = cc in
    ap (λ (w : List Command × List ℕ). length w.0) (sym same)
length_commands (suc n) base t x e = length_by (commands_after n base t) (base + suc n) n x (λ y f. length_commands n base t y f) e

-- `end` behind fewer commands
abbrev EndsWithin : ℕ → List ℕ → List ℕ → Type 0
EndsWithin most t t' = (t' ≡ []) × IsWholeWithin most t

commands_within : (line most : ℕ) (h : Header) (t m rest : List ℕ) → Opened line h t m
    → BehindCommands line (λ n k. (n < most) × (command_at (line + (n + 1)) n k ≡ Ok (command.End, rest))) m → EndsWithin most t rest
commands_within line most h t m rest o (n, cs, k, given, (less, next)) =
    let size : length (cs ++ command.End ∷ []) ≤ most = omega (arith, length-append cs (command.End ∷ []), length_commands n line m (cs, k) given.0, less) in
    (nothing_behind (line + (n + 1)) n k rest next, (cs ++ command.End ∷ [], whole_text line n h cs t m k rest o given.0 next, size))

pub ends_within : (line most line' : ℕ) (h : Header) (hand : List ℕ) (left mid left' : Option (List ℕ)) → Of (text_of [] left) mid (Opened line h)
    → SomeCommandsAnswer line most mid (text_of hand left') hand line' (Ok true) → LineOutcome left left' most (Ok None)
ends_within line most line' h hand left mid left' o halts =
    bare hand left left' (EndsWithin most) (λ b b'. (b' ≡ []) × IsWholeWithin most b)
    (of_then (text_of [] left) mid (text_of hand left') (Opened line h)
    (λ t t'. BehindCommands line (λ n k. (n < most) × (command_at (line + (n + 1)) n k ≡ Ok (command.End, t'))) t) (EndsWithin most) o halts
    (λ x y z p q. commands_within line most h x y z p q))
    (λ b b' s. (empty_back hand b' s.0, s.1))

pub image_so : (r : Result (Option (List ℕ)) ScheduleFault) (line i : ℕ) (h : Header) (hand : List ℕ) (left mid left' : Option (List ℕ)) → Of (text_of [] left) mid (Begun line h)
    → TaskImageAnswer line h.tasks i mid (text_of hand left') hand r → ImageOutcome left left' i r
image_so (Ok (Some image)) line i h hand left mid left' has given =
    bare hand left left' (λ t t'. HasImage t i image) (λ b b'. HasImage b i image)
    (of_then (text_of [] left) mid (text_of hand left') (Begun line h) (λ t t'. IsImage h.tasks i image t) (λ t t'. HasImage t i image) has given
    (λ x y z p q. record { lines = line; progress = h; rest = y; header = p; there = q.0; whole = q.1; bytes = q.2 }))
    (λ b b' s. s)
image_so (Ok None) line i h hand left mid left' has given =
    bare hand left left' (λ t t'. HasNoTask t i) (λ b b'. HasNoTask b i)
    (of_then (text_of [] left) mid (text_of hand left') (Begun line h) (IsBehind (total h.tasks)) (λ t t'. HasNoTask t i) has given.1
    (λ x y z p q. record { lines = line; h = h; rest = y; header = p; images = q.0; none = given.0 }))
    (λ b b' s. s)
image_so (Err f) line i h hand left mid left' has given = images_stop f line h hand left mid left' has given

pub refused_not_whole : (f : LineFault) (left left' : Option (List ℕ)) → TextOutcome left left' (Err (fault.Line f)) → Of left left' (λ b b'. (cs : List Command) → IsWhole b cs → ⊥)
refused_not_whole f left left' h = of_map left left' (λ b b'. TextBreak b f) (λ b b'. (cs : List Command) → IsWhole b cs → ⊥) h (λ b b' br cs w. (whole_or_broken b).not_both cs f w br)
