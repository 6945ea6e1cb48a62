-- The text of `demo` is accepted as its schedule.
use Rattle.std.proofs.Common.{◌≡◌, ◌≢◌, refl, sym, ap, ◌∙◌, subst, arith, ℕ, zero, suc, ◌+◌, ◌*◌, ◌/◌, ◌%◌, ◌<◌, ◌≤◌}
use Rattle.std.proofs.Common.{List, [], ◌∷◌, ◌++◌, length, replicate, true, false, nat_lt, nat_le, append_assoc, length-append, All, map}
use Rattle.std.specs.Prelude.{Result, Ok, Err, Some, slice_get, codes}
use Rattle.std.specs.List.{flat_map}
use Rattle.std.proofs.lemmas.Bool.{or_from}
use Rattle.std.proofs.lemmas.List.Elements.{All-nil, All-cons, All-append}
use Rattle.std.proofs.lemmas.List.{map-append}
use Rattle.std.proofs.lemmas.Option.{none-some, same_Some}
use Rattle.std.specs.Result.{is_ok}
use Rattle.replay_engine.specs.Breaks.{AreAllowed}
use Rattle.sched_text.specs.Commands.{is_end, command_at, command_cut, command_row, commands_after}
use Rattle.sched_text.specs.Grammar.{IsLine}
use Rattle.sched_text.specs.Header.{HasHeader}
use Rattle.sched_text.specs.Lines.{Line, line_at}
use Rattle.sched_text.specs.Outcomes.{IsImage}
use Rattle.sched_text.specs.Rows.{command_of, task_of, version_of}
use Rattle.sched_text.specs.declared.faults.Reason.{Reason}
use Rattle.sched_text.specs.declared.schedule.TaskLine.{TaskLine}
use Rattle.sched_text.specs.Text.{has_end}
use Rattle.sched_text.specs.declared.schedule.Command.{Command}
use Rattle.sched_text.proofs.FrontLaws.{end_more}
use Rattle.sched_text.proofs.GrammarSteps.{is_read}
use Rattle.ctrsim_cli.specs.Demo.{demo_image, demo_line, demo_lines, demo_header, run_of_turn, sample_of_turn, turns, line, task_row, task_rows, header_rows, run_row, sample_row, turn_text, turns_text, demo_text}
use Rattle.ctrsim_cli.specs.Laws.{DemoIsAccepted}
use Rattle.ctrsim_cli.specs.Parts.{Begins}
use Rattle.ctrsim_cli.specs.SampleText.{dec}
use Rattle.ctrsim_cli.proofs.DemoLaws.{plan, demo_is_header, run_allowed, sample_allowed}
use Rattle.ctrsim_cli.proofs.DemoRows.{from, short, parts, from_append, dec_one, run_read, sample_read, run_line, sample_line, line_of}
use Rattle.ctrsim_cli.proofs.Endings.{accepted_as, reads_more}
use Rattle.ctrsim_cli.proofs.PerformLaws.{allowed_more}

-- one line of commands
command_there : (number count : ℕ) (row text rest : List ℕ) (c : Command) → line_at text ≡ Line row rest → command_of row ≡ Ok c → is_end c ≡ false → nat_lt count 1048576 ≡ true → command_at number count text ≡ Ok (c, rest)
command_there number count row text rest c at says other few =
    ap (command_cut number count) at ∙ ap (command_row number count rest) says ∙ rw (other, few) refl

less_100 : (i m : ℕ) → 0 < m → m ≤ 97 → i % m < 100
less_100 i m some most = grind (arith, some, most)

-- the lines of a turn, with what follows them
turn_read : (i k : ℕ) (cs : List Command) (m rest : List ℕ) → k ≤ 200000 → commands_after k 12 m ≡ Ok (cs, turn_text i ++ rest)
    → commands_after (suc (suc k)) 12 m ≡ Ok ((cs ++ run_of_turn i ∷ []) ++ sample_of_turn i ∷ [], rest)
turn_read i k cs m rest few given =
    let h = (i + i / 8) % 4 in
    let t = i % 8 in
    let s = 1 + (i * i + 3 * i) % 97 in
    let ph : h < 100 = grind arith in
    let pt : t < 100 = grind arith in
    let ps : s < 100 = grind arith in
    let run = run_row h t s in
    let sample = sample_row t in
    let behind = line sample ++ rest in
    let two : turn_text i ++ rest ≡ run ++ 10 ∷ behind =
    append_assoc (line run) (line sample) rest ∙ append_assoc run (10 ∷ []) behind in
    let one : behind ≡ sample ++ 10 ∷ rest = append_assoc sample (10 ∷ []) rest in
    let fk : nat_lt k 1048576 ≡ true = grind (arith, few) in
    let fs : nat_lt (suc k) 1048576 ≡ true = grind (arith, few) in
    let first = reads_more 12 k cs (run_of_turn i) m (turn_text i ++ rest) behind given
    (command_there (12 + (k + 1)) k run (turn_text i ++ rest) behind (run_of_turn i) (ap line_at two ∙ run_line h t s behind ph pt ps) (run_read h t s ph pt ps) refl fk) in
    reads_more 12 (suc k) (cs ++ run_of_turn i ∷ []) (sample_of_turn i) m behind rest first
    (command_there (12 + (suc k + 1)) (suc k) sample behind rest (sample_of_turn i) (ap line_at one ∙ sample_line t rest pt) (sample_read t pt) refl fs)

-- those of the first so many turns
turns_read : (n : ℕ) (rest : List ℕ) → n ≤ 100000 → commands_after (2 * n) 12 (turns_text n ++ rest) ≡ Ok (turns n, rest)
unfolding commands_after
turns_read zero rest few = refl
turns_read (suc n) rest few =
    let number : 2 * suc n ≡ suc (suc (2 * n)) = omega arith in
    let text : turns_text (suc n) ++ rest ≡ turns_text n ++ (turn_text n ++ rest) = append_assoc (turns_text n) (turn_text n) rest in
    ap (λ (k : ℕ). commands_after k 12 (turns_text (suc n) ++ rest)) number
    ∙ ap (commands_after (suc (suc (2 * n))) 12) text
    ∙ turn_read n (2 * n) (turns n) (turns_text n ++ (turn_text n ++ rest)) rest (omega (arith, few)) (turns_read n (turn_text n ++ rest) (omega (arith, few)))
    ∙ ap (λ (cs : List Command). Ok (cs, rest)) (append_assoc (turns n) (run_of_turn n ∷ []) (sample_of_turn n ∷ []))

no_end : (n : ℕ) → has_end (turns n) ≡ false
no_end zero = refl
no_end (suc n) =
    let ds = turns n ++ run_of_turn n ∷ [] in
    ap has_end (sym (append_assoc (turns n) (run_of_turn n ∷ []) (sample_of_turn n ∷ [])))
    ∙ end_more ds (sample_of_turn n) ∙ or_from (has_end ds) false (end_more (turns n) (run_of_turn n) ∙ or_from (has_end (turns n)) false (no_end n) refl) refl

all_allowed : (n : ℕ) → AreAllowed plan (turns n)
all_allowed zero = tt
all_allowed (suc n) =
    let ds = turns n ++ run_of_turn n ∷ [] in
    subst (AreAllowed plan) (append_assoc (turns n) (run_of_turn n ∷ []) (sample_of_turn n ∷ []))
    (allowed_more plan [] ds (sample_of_turn n) (allowed_more plan [] (turns n) (run_of_turn n) (all_allowed n) (run_allowed (turns n) n)) (sample_allowed (turns n) n))

le_is : (x : ℕ) → nat_le 32 x ≡ true → 32 ≤ x
le_is x e = grind (arith, e)

-- the header
is_line : (row : List ℕ) → nat_lt (length row) 256 ≡ true → from 32 row ≡ true → IsLine row
is_line row few clear = record { few = grind (arith, few); no_feed = none row clear }
  where
    none : (xs : List ℕ) → from 32 xs ≡ true → All (λ b. b ≢ 10) xs
    none [] e = All-nil (λ (b : ℕ). b ≢ 10)
    none (x ∷ xs) e =
        let p = parts (nat_le 32 x) (from 32 xs) e in
        All-cons (λ (b : ℕ). b ≢ 10) x xs (λ same. absurd (omega (arith, le_is x p.0, same))) (none xs p.1)

task_line : (t : ℕ) → IsLine (task_row t)
task_line t =
    let d = short (t % 5) (grind arith) in
    let last = codes " 4 0 7" in
    let size : length (task_row t) ≡ 11 + (length (dec (t % 5)) + 6) = omega (arith, length-append (codes "task 12 12 ") (dec (t % 5) ++ last), length-append (dec (t % 5)) last) in
    is_line (task_row t) (grind (arith, size, d.few)) (from_append 32 (codes "task 12 12 ") (dec (t % 5) ++ last) refl (from_append 32 (dec (t % 5)) last d.clear refl))

task_lines : (n : ℕ) → All IsLine (task_rows n)
task_lines zero = All-nil IsLine
task_lines (suc n) = All-append IsLine (task_rows n) (task_row n ∷ []) (task_lines n) (All-cons IsLine (task_row n) [] (task_line n) (All-nil IsLine))

-- a task line with one digit
task_with : (d : ℕ) → d < 5 → task_of (codes "task 12 12 " ++ (dec d ++ codes " 4 0 7")) ≡ Ok (record { image = 12; mem = 12; depth = d; mctrctl = 4; vsctrctl = 0; period = 7 })
task_with zero less = ap (λ (u : List ℕ). task_of (codes "task 12 12 " ++ (u ++ codes " 4 0 7"))) (dec_one 0 (omega arith))
task_with (suc zero) less = ap (λ (u : List ℕ). task_of (codes "task 12 12 " ++ (u ++ codes " 4 0 7"))) (dec_one 1 (omega arith))
task_with (suc (suc zero)) less = ap (λ (u : List ℕ). task_of (codes "task 12 12 " ++ (u ++ codes " 4 0 7"))) (dec_one 2 (omega arith))
task_with (suc (suc (suc zero))) less = ap (λ (u : List ℕ). task_of (codes "task 12 12 " ++ (u ++ codes " 4 0 7"))) (dec_one 3 (omega arith))
task_with (suc (suc (suc (suc zero)))) less = ap (λ (u : List ℕ). task_of (codes "task 12 12 " ++ (u ++ codes " 4 0 7"))) (dec_one 4 (omega arith))
task_with (suc (suc (suc (suc (suc d))))) less = absurd (omega (arith, less))

tasks_read : (n : ℕ) → map task_of (task_rows n) ≡ map (λ task. Ok task) (demo_lines n)
tasks_read zero = refl
tasks_read (suc n) =
    map-append task_of (task_rows n) (task_row n ∷ [])
    ∙ ap (λ (rs : List (Result TaskLine Reason)). rs ++ task_of (task_row n) ∷ []) (tasks_read n)
    ∙ ap (λ (r : Result TaskLine Reason). map (λ task. Ok task) (demo_lines n) ++ r ∷ []) (task_with (n % 5) (grind arith))
    ∙ sym (map-append (λ (task : TaskLine). Ok task) (demo_lines n) (demo_line n ∷ []))

-- what an answer holds
abbrev held : {A : Type 0} (r : Result A Reason) → is_ok r ≡ true → (x : A) × (r ≡ Ok x)
held (Ok x) e = (x, refl)
held (Err why) e = absurd (cc e)

header_read : (rest : List ℕ) → HasHeader (flat_map line header_rows ++ rest) 12 demo_header rest
header_read rest =
    let v = held (version_of (codes "ctr-schedule 1")) refl in
    is_read (flat_map line header_rows ++ rest) rest 12 demo_header (record {
      rows = header_rows;
      text_is = refl;
      count = refl;
      are_lines = All-cons IsLine (codes "ctr-schedule 1") (codes "harts 4" ∷ (codes "layout 803" ∷ (task_rows 8 ++ codes "images" ∷ []))) (is_line (codes "ctr-schedule 1") refl refl)
          (All-cons IsLine (codes "harts 4") (codes "layout 803" ∷ (task_rows 8 ++ codes "images" ∷ [])) (is_line (codes "harts 4") refl refl)
          (All-cons IsLine (codes "layout 803") (task_rows 8 ++ codes "images" ∷ []) (is_line (codes "layout 803") refl refl)
          (All-append IsLine (task_rows 8) (codes "images" ∷ []) (task_lines 8) (All-cons IsLine (codes "images") [] (is_line (codes "images") refl refl) (All-nil IsLine)))));
      are = record {
        before = codes "ctr-schedule 1" ∷ (codes "harts 4" ∷ (codes "layout 803" ∷ task_rows 8));
        images_row = codes "images";
        rows_are = refl;
        are = record {
          front = codes "ctr-schedule 1" ∷ (codes "harts 4" ∷ (codes "layout 803" ∷ []));
          task_rows = task_rows 8;
          irq_rows = [];
          rows_are = refl;
          first = record {
            version = v.0;
            version_row = codes "ctr-schedule 1";
            harts_row = codes "harts 4";
            layout_row = codes "layout 803";
            branch_rows = [];
            rows_are = refl;
            says_version = v.1;
            says_harts = refl;
            says_layout = refl;
            says_branch = (refl, refl);
          };
          tasks = tasks_read 8;
          irqs = refl;
        };
        images = refl;
      };
    }) demo_is_header

-- the images
abbrev pub images_text : List ℕ
images_text = flat_map (λ image. image) (replicate 8 demo_image)

image_is : (i : ℕ) (image rest : List ℕ) → slice_get (replicate 8 demo_image) i ≡ Some image → IsImage (demo_lines 8) i image (images_text ++ rest)
image_is zero image rest e = (omega arith, omega arith, sym (same_Some demo_image image e))
image_is (suc zero) image rest e = (omega arith, omega arith, sym (same_Some demo_image image e))
image_is (suc (suc zero)) image rest e = (omega arith, omega arith, sym (same_Some demo_image image e))
image_is (suc (suc (suc zero))) image rest e = (omega arith, omega arith, sym (same_Some demo_image image e))
image_is (suc (suc (suc (suc zero)))) image rest e = (omega arith, omega arith, sym (same_Some demo_image image e))
image_is (suc (suc (suc (suc (suc zero))))) image rest e = (omega arith, omega arith, sym (same_Some demo_image image e))
image_is (suc (suc (suc (suc (suc (suc zero)))))) image rest e = (omega arith, omega arith, sym (same_Some demo_image image e))
image_is (suc (suc (suc (suc (suc (suc (suc zero))))))) image rest e = (omega arith, omega arith, sym (same_Some demo_image image e))
image_is (suc (suc (suc (suc (suc (suc (suc (suc i)))))))) image rest e = absurd (none-some image e)

begins : (rest : List ℕ) → Begins 12 demo_header (replicate 8 demo_image) (flat_map line header_rows ++ (images_text ++ rest)) rest
begins rest = record {
  rest = images_text ++ rest;
  header = header_read (images_text ++ rest);
  there = record { behind = (omega (arith, length-append images_text rest), refl); each = λ i image e. image_is i image rest e };
}

pub demo_is_accepted : DemoIsAccepted
demo_is_accepted n few =
    let last = line (codes "end") in
    (accepted_as 12 (2 * n) demo_header (replicate 8 demo_image) (turns n) (demo_text n) (turns_text n ++ last) last [] refl (begins (turns_text n ++ last))
    (turns_read n last few, no_end n) (all_allowed n) (ap (command_cut (12 + (2 * n + 1)) (2 * n)) (line_of 256 (codes "end") [] (omega arith) refl))).1
