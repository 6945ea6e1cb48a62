-- The schedule of `demo`: its tasks, and its turns, each of which may be performed.
use Rattle.std.proofs.Common.{◌≡◌, refl, sym, ap, ◌∙◌, arith, ℕ, zero, suc, ◌+◌, ◌*◌, ◌/◌, ◌%◌, ◌<◌}
use Rattle.std.proofs.Common.{List, [], ◌∷◌, ◌++◌, length, replicate, add-one, append_assoc, true, nat_lt, nat_eq}
use Rattle.std.specs.Prelude.{Some, None, Ok, Err}
use Rattle.std.proofs.Common.{length-append, All}
use Rattle.std.proofs.lemmas.List.{length-replicate}
use Rattle.std.proofs.lemmas.List.Elements.{All-push, All-nil, All-cons}
use Rattle.std.proofs.lemmas.Grind.{fold-append}
use Rattle.std.proofs.lemmas.Option.{none-some}
use Rattle.ctr_port.specs.Counts.{HasCause}
use Rattle.replay_engine.specs.HartSet.{GoesOn}
use Rattle.replay_engine.specs.Outcome.{is_write_fault}
use Rattle.replay_engine.specs.Refusals.{command_refusal}
use Rattle.replay_engine.specs.Stands.{place_after, place_next}
use Rattle.replay_engine.specs.Start.{plan_of, memories, AreMemories}
use Rattle.replay_engine.specs.Tasks.{PresentState}
use Rattle.replay_engine.specs.View.{Plan}
use Rattle.replay_engine.specs.declared.fault.PerformFault.{PerformFault}
use Rattle.replay_engine.specs.declared.fault.PerformFault.TheVariants.{NoTask, NoHart, NotResident, EmptyHart, Write}
use Rattle.rv_hart.specs.Facts.{AreBytes}
use Rattle.rv_hart.specs.Hart.{HartState}
use Rattle.rv_hart.specs.Memory.{memory_of}
use Rattle.sched_text.specs.Header.{IsHeader}
use Rattle.sched_text.specs.Irqs.{IsIrq, follow_on}
use Rattle.sched_text.specs.Rows.{IsTask}
use Rattle.sched_text.specs.declared.schedule.Command.{Command}
use Rattle.sched_text.specs.declared.schedule.Header.{Header}
use Rattle.ctrsim_cli.specs.declared.counting.Counter.{Counter}
use Rattle.ctrsim_cli.specs.Counted.{none_counted, counted, counted_then}
use Rattle.ctrsim_cli.specs.Parts.{first_states, Made}
use Rattle.ctrsim_cli.specs.Schedule.{IsSchedule, output_of, HartsAreOf}
use Rattle.ctrsim_cli.proofs.ChainLaws.{Follows, PerformedBy, CommandsGoOn, HartsAreTold, chain_more, chain_goes_on}
use Rattle.ctrsim_cli.proofs.Images.{memories_more}
use Rattle.ctrsim_cli.specs.Demo.{demo_image, demo_line, demo_lines, demo_header, demo_schedule, turns, run_of_turn, sample_of_turn}

pub lines_more : (n : ℕ) → demo_lines (n + 1) ≡ demo_lines n ++ demo_line n ∷ []
lines_more n = rw (add-one n) refl

pub turns_more : (n : ℕ) → turns (n + 1) ≡ (turns n ++ run_of_turn n ∷ []) ++ sample_of_turn n ∷ []
turns_more n = rw (add-one n) (sym (append_assoc (turns n) (run_of_turn n ∷ []) (sample_of_turn n ∷ [])))

abbrev pub plan : Plan
plan = plan_of demo_header

pub run_allowed : (cs : List Command) (i : ℕ) → command_refusal plan cs (run_of_turn i) ≡ None
run_allowed cs i =
    let task : nat_lt (i % 8) 8 ≡ true = grind arith in
    let hart : nat_lt ((i + i / 8) % 4) 4 ≡ true = grind arith in
    rw (task, hart) refl

placed : (cs : List Command) (i : ℕ) → place_after (cs ++ run_of_turn i ∷ []) (i % 8) ≡ Some ((i + i / 8) % 4)
placed cs i =
    let same : nat_eq (i % 8) (i % 8) ≡ true = grind arith in
    fold-append (place_next (i % 8)) None cs (run_of_turn i ∷ []) ∙ rw (same) refl

pub sample_allowed : (cs : List Command) (i : ℕ) → command_refusal plan (cs ++ run_of_turn i ∷ []) (sample_of_turn i) ≡ None
sample_allowed cs i =
    let task : nat_lt (i % 8) 8 ≡ true = grind arith in
    rw (task, placed cs i) refl

-- a command that may be performed is, into a sink whose count of faults stays 0
pub never : {A E H : Type 0} (follows : Follows E H) (tells : H → Type 0) (held : H → List HartState) (h : Header) (images : List (List ℕ)) (cs : List Command) (c : Command) (bytes : List ℕ) (a : H) (f : E) (b : H) (why : PerformFault)
    → command_refusal (plan_of h) cs c ≡ None → GoesOn follows tells held h images cs c bytes a f b (Err why) → HasCause {T = Unit {0}} is_write_fault 0 0 (Err why) → A
never follows tells held h images cs c bytes a f b NoTask fits e cause = absurd (none-some NoTask (sym fits ∙ e.refused))
never follows tells held h images cs c bytes a f b NoHart fits e cause = absurd (none-some NoHart (sym fits ∙ e.refused))
never follows tells held h images cs c bytes a f b NotResident fits e cause = absurd (none-some NotResident (sym fits ∙ e.refused))
never follows tells held h images cs c bytes a f b EmptyHart fits e cause = absurd (none-some EmptyHart (sym fits ∙ e.refused))
never follows tells held h images cs c bytes a f b Write fits e cause = absurd (omega (arith, cause.1))

-- two commands a turn
pub turns_length : (n : ℕ) → length (turns n) ≡ 2 * n
turns_length zero = refl
turns_length (suc n) = omega (arith, length-append (turns n) (run_of_turn n ∷ sample_of_turn n ∷ []), turns_length n)

demo_lines_length : (n : ℕ) → length (demo_lines n) ≡ n
demo_lines_length zero = refl
demo_lines_length (suc n) = omega (arith, length-append (demo_lines n) (demo_line n ∷ []), demo_lines_length n)

pub demo_memories_more : (n : ℕ) → memories (demo_lines (n + 1)) (replicate (n + 1) demo_image)
    ≡ memories (demo_lines n) (replicate n demo_image) ++ memory_of demo_image 12 ∷ []
demo_memories_more n =
    rw (add-one n) (ap (λ (is : List (List ℕ)). memories (demo_lines n ++ demo_line n ∷ []) is) (replicate_last n demo_image)
    ∙ memories_more (demo_lines n) (replicate n demo_image) (demo_line n) demo_image (length-replicate n demo_image ∙ sym (demo_lines_length n)))
  where
    replicate_last : (n : ℕ) (x : List ℕ) → replicate (suc n) x ≡ replicate n x ++ x ∷ []
    replicate_last zero x = refl
    replicate_last (suc n) x = ap (λ (xs : List (List ℕ)). x ∷ xs) (replicate_last n x)

pub demo_memories : AreMemories (demo_lines 8) (memories (demo_lines 8) (replicate 8 demo_image))
demo_memories = refl

demo_lines_are : (n : ℕ) → All IsTask (demo_lines n)
demo_lines_are zero = All-nil IsTask
demo_lines_are (suc n) = All-push IsTask (demo_lines n) (demo_line n) (demo_lines_are n) (record {
  some = omega arith;
  most = omega arith;
  words = refl;
  image = omega arith;
  depth = grind arith;
  period = omega arith;
})

pub demo_is_header : IsHeader demo_header
unfolding follow_on
demo_is_header = record {
  one_hart = omega arith;
  harts = omega arith;
  layout = refl;
  branch = refl;
  one_task = omega arith;
  few = omega arith;
  tasks = demo_lines_are 8;
  irqs = All-nil (IsIrq 8);
  order = tt;
}

abbrev pub first : List PresentState
first = first_states (demo_schedule 0)

abbrev pub images : List (List ℕ)
images = replicate 8 demo_image

-- one command more
pub made_more : {E H : Type 0} (follows : Follows E H) (performed : PerformedBy E H) (tells : H → Type 0) (held : H → List HartState) → CommandsGoOn follows performed tells held → (e : E) (a : H) (d f : E) (m b : H) (k k' : Counter) (cs : List Command) (c : Command) (bytes : List ℕ)
    → Made follows performed e a cs d m k → performed d m c (Ok tt) bytes f b → k' ≡ counted k bytes → Made follows performed e a (cs ++ c ∷ []) f b k'
made_more follows performed tells held law e a d f m b k k' cs c bytes p done wrote = record {
  bytes = p.bytes ++ bytes;
  chain = chain_more performed cs c e d f a m b p.bytes bytes p.chain done;
  going = (law demo_header images cs d f m b c (Ok tt) bytes p.going done).next;
  counted = counted_then none_counted k k' p.bytes bytes p.counted wrote;
}

pub image_bytes : AreBytes demo_image
image_bytes =
    one 239 (0 ∷ 128 ∷ 0 ∷ 19 ∷ 0 ∷ 0 ∷ 0 ∷ 103 ∷ 128 ∷ 0 ∷ 0 ∷ []) (omega arith) (
    one 0 (128 ∷ 0 ∷ 19 ∷ 0 ∷ 0 ∷ 0 ∷ 103 ∷ 128 ∷ 0 ∷ 0 ∷ []) (omega arith) (
    one 128 (0 ∷ 19 ∷ 0 ∷ 0 ∷ 0 ∷ 103 ∷ 128 ∷ 0 ∷ 0 ∷ []) (omega arith) (
    one 0 (19 ∷ 0 ∷ 0 ∷ 0 ∷ 103 ∷ 128 ∷ 0 ∷ 0 ∷ []) (omega arith) (
    one 19 (0 ∷ 0 ∷ 0 ∷ 103 ∷ 128 ∷ 0 ∷ 0 ∷ []) (omega arith) (
    one 0 (0 ∷ 0 ∷ 103 ∷ 128 ∷ 0 ∷ 0 ∷ []) (omega arith) (
    one 0 (0 ∷ 103 ∷ 128 ∷ 0 ∷ 0 ∷ []) (omega arith) (
    one 0 (103 ∷ 128 ∷ 0 ∷ 0 ∷ []) (omega arith) (
    one 103 (128 ∷ 0 ∷ 0 ∷ []) (omega arith) (
    one 128 (0 ∷ 0 ∷ []) (omega arith) (
    one 0 (0 ∷ []) (omega arith) (
    one 0 ([]) (omega arith) (
    All-nil (λ (n : ℕ). n < 256)))))))))))))
  where
    one : (b : ℕ) (bs : List ℕ) → b < 256 → AreBytes bs → AreBytes (b ∷ bs)
    one b bs small are = All-cons (λ (n : ℕ). n < 256) b bs small are

demo_bytes : (n : ℕ) → All AreBytes (replicate n demo_image)
demo_bytes zero = All-nil AreBytes
demo_bytes (suc n) = All-cons AreBytes demo_image (replicate n demo_image) image_bytes (demo_bytes n)

pub demo_is_schedule : IsSchedule (demo_schedule 0)
demo_is_schedule = record { header = demo_is_header; size = refl; bytes = demo_bytes 8; allowed = tt }

-- of harts that tell what they hold, the bytes that were read in the turns are those of their samples
pub turns_are : {E H : Type 0} (follows : Follows E H) (performed : PerformedBy E H) (tells : H → Type 0) (held : H → List HartState) → CommandsGoOn follows performed tells held → HartsAreTold follows tells held → (n : ℕ) (e f : E) (a b : H) (k : Counter)
    → follows demo_header images [] e a → tells a → Made follows performed e a (turns n) f b k → (k ≡ counted none_counted (output_of (demo_schedule n))) × HartsAreOf (demo_schedule n) (held b)
turns_are follows performed tells held law lone n e f a b k begun told p =
    let r = chain_goes_on follows performed tells held law demo_header images [] (turns n) e f a b p.bytes begun p.chain in
    let s = r.2 told in
    (p.counted ∙ ap (counted none_counted) s.1, lone demo_header images (turns n) f b r.1 s.0)
