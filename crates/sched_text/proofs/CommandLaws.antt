-- A command at the front of a text, from the line that was read.
use Rattle.std.proofs.Common.{◌≡◌, ℕ, ◌+◌, ◌<◌, ◌≤◌, List, [], ◌∷◌, length, drop, take, Bool, false, true, Option, None, Some, Result, Ok, Err, if◌then◌else◌, nat_lt, refl, sym, ap, ◌∙◌, subst, ◌⊎◌, inr, arith}
use Rattle.std.proofs.lemmas.Bool.{false≢true, lt-ltb, le-ltb}
use Rattle.ctr_port.specs.InHand.{text_of, Same, Of}
use Rattle.ctr_port.proofs.InHand.{of_map, of_then}
use Rattle.sched_text.specs.Lines.{LineCut, Line, Long, Open, line_within, line_at}
use Rattle.sched_text.specs.Rows.{command_of}
use Rattle.sched_text.specs.Header.{refuse}
use Rattle.sched_text.specs.Commands.{is_end, end_at, command_row, command_cut, command_at, ends_hand, cut_needs_read, needs_read}
use Rattle.sched_text.specs.InHand.{is_open}
use Rattle.sched_text.specs.Reader.{EndsAt, CommandAnswer, EndAnswer, end_answer}
use Rattle.sched_text.specs.declared.faults.LineFault.{LineFault}
use Rattle.sched_text.specs.declared.schedule.Command.{Command}
use Rattle.sched_text.specs.declared.schedule.Command.TheVariants as command
use Rattle.sched_text.specs.declared.faults.Reason.{Reason}
use Rattle.sched_text.specs.declared.faults.Reason.TheVariants as reason
use Rattle.sched_text.specs.declared.faults.CommandFault.{CommandFault}
use Rattle.sched_text.specs.declared.faults.CommandFault.TheVariants as fault
use Rattle.sched_text.proofs.TextLaws.{line_given, long_given}

-- bytes in hand after `end`
pub end_refused : (hand : List ℕ) (left : Option (List ℕ)) (line : ℕ) → 0 < length hand → Of (text_of hand left) (text_of hand left) (λ t t'. end_at line t ≡ refuse (line + 1) reason.Trailing)
end_refused [] left line some = absurd (omega (arith, some))
end_refused (b ∷ hand) None line some = tt
end_refused (b ∷ hand) (Some xs) line some = refl

-- the first line of a text, and what follows it
abbrev pub Begins : List ℕ → List ℕ → List ℕ → Type 0
Begins w t t' = line_at t ≡ Line w t'

-- what a text says, by what follows its first line
abbrev pub Says : ℕ → ℕ → (List ℕ → Result (Command × List ℕ) LineFault) → List ℕ → List ℕ → Type 0
Says line count answer t t' = command_at line count t ≡ answer t'

-- a line in hand, passed over
pub line_passed : (hand0 hand passed bytes front : List ℕ) (n : ℕ) (left0 left : Option (List ℕ)) → Same hand0 left0 hand left → line_at hand ≡ Line (take n hand) (drop (n + 1) hand)
    → bytes ≡ hand → front ≡ take n bytes → passed ≡ drop (n + 1) hand → Of (text_of hand0 left0) (text_of passed left) (Begins front)
line_passed hand0 hand passed bytes front n left0 left same e b f p =
    rw (f, b, p) (line_given hand0 hand (take n hand) (drop (n + 1) hand) left0 left same e)

-- what a text says whose first line is this one
says : (line count : ℕ) (t t' w : List ℕ) → Begins w t t' → command_at line count t ≡ command_row line count t' (command_of w)
says line count t t' w e = ap (command_cut line count) e

pub long_refused : (hand0 hand : List ℕ) (left0 left : Option (List ℕ)) (line count : ℕ) → Same hand0 left0 hand left → line_at hand ≡ Long
    → Of (text_of hand0 left0) (text_of hand left) (Says line count (λ t'. refuse line reason.LongLine))
long_refused hand0 hand left0 left line count same e =
    of_map (text_of hand0 left0) (text_of hand left) (λ t t'. line_at t ≡ Long) (Says line count (λ t'. refuse line reason.LongLine))
    (long_given hand0 hand left0 left same e) (λ t t' long. ap (command_cut line count) long)

pub row_refused : (text text' : Option (List ℕ)) (line count : ℕ) (w : List ℕ) (why : Reason) → Of text text' (Begins w) → command_of w ≡ Err why
    → Of text text' (Says line count (λ t'. refuse line why))
row_refused text text' line count w why given row =
    of_map text text' (Begins w) (Says line count (λ t'. refuse line why)) given (λ t t' e. says line count t t' w e ∙ ap (command_row line count t') row)

test_false : {A : Type 0} (b : Bool) (x y : A) → b ≡ false → (if b then x else y) ≡ y
test_false b x y e = rw e refl

test_true : {A : Type 0} (b : Bool) (x y : A) → b ≡ true → (if b then x else y) ≡ x
test_true b x y e = rw e refl

-- a command that isn't `end`
counted : (line count : ℕ) (t t' w : List ℕ) (command : Command) → Begins w t t' → command_of w ≡ Ok command → is_end command ≡ false
    → command_at line count t ≡ (if nat_lt count 1048576 then Ok (command, t') else refuse line reason.TooMany)
counted line count t t' w command e row other =
    says line count t t' w e ∙ ap (command_row line count t') row
    ∙ test_false (is_end command) (end_at line t') (if nat_lt count 1048576 then Ok (command, t') else refuse line reason.TooMany) other

pub row_taken : (text text' : Option (List ℕ)) (line count : ℕ) (w : List ℕ) (command : Command) → Of text text' (Begins w) → command_of w ≡ Ok command → is_end command ≡ false
    → count < 1048576 → Of text text' (Says line count (λ t'. Ok (command, t')))
row_taken text text' line count w command given row other few =
    of_map text text' (Begins w) (Says line count (λ t'. Ok (command, t'))) given
    (λ t t' e. counted line count t t' w command e row other ∙ test_true (nat_lt count 1048576) (Ok (command, t')) (refuse line reason.TooMany) (lt-ltb count 1048576 few))

pub row_over : (text text' : Option (List ℕ)) (line count : ℕ) (w : List ℕ) (command : Command) → Of text text' (Begins w) → command_of w ≡ Ok command → is_end command ≡ false
    → 1048576 ≤ count → Of text text' (Says line count (λ t'. refuse line reason.TooMany))
row_over text text' line count w command given row other full =
    of_map text text' (Begins w) (Says line count (λ t'. refuse line reason.TooMany)) given
    (λ t t' e. counted line count t t' w command e row other ∙ test_false (nat_lt count 1048576) (Ok (command, t')) (refuse line reason.TooMany) (le-ltb count 1048576 full))

is_end_is : (c : Command) → is_end c ≡ true → c ≡ command.End
is_end_is command.End e = refl
is_end_is (command.Run hart task steps) e = absurd (false≢true e)
is_end_is (command.Sample task) e = absurd (false≢true e)
is_end_is (command.Evict hart) e = absurd (false≢true e)

-- the line `end`
ends : (line count : ℕ) (t t' w : List ℕ) (c : Command) → Begins w t t' → command_of w ≡ Ok c → is_end c ≡ true → command_at line count t ≡ end_at line t'
ends line count t t' w c e row end =
    says line count t t' w e ∙ ap (command_row line count t') row
    ∙ test_true (is_end c) (end_at line t') (if nat_lt count 1048576 then Ok (c, t') else refuse line reason.TooMany) end

open_nothing : (hand : List ℕ) → hand ≡ [] → line_at hand ≡ Open
unfolding line_within
open_nothing hand e = rw e refl

-- what comes after the line `end`
pub end_shows : (r : Result (Unit {0}) CommandFault) (text text' text'' : Option (List ℕ)) (line count : ℕ) (w hand : List ℕ) (c : Command) → Of text text' (Begins w) → command_of w ≡ Ok c
    → is_end c ≡ true → EndAnswer line text' text'' hand r → CommandAnswer (command_at line count) text text'' hand (end_answer r)
end_shows (Ok done) text text' text'' line count w hand c given row end finished =
    of_then text text' text'' (Begins w) (λ t t'. end_at line t ≡ Ok (command.End, t')) (Says line count (λ t'. Ok (command.End, t'))) given finished
    (λ t t' t'' e stops. ends line count t t' w c e row end ∙ stops)
end_shows (Err (fault.Line f)) text text' text'' line count w hand c given row end finished =
    of_then text text' text'' (Begins w) (λ t t'. end_at line t ≡ Err f) (Says line count (λ t'. Err f)) given finished
    (λ t t' t'' e stops. ends line count t t' w c e row end ∙ stops)
end_shows (Err fault.ReadFault) text text' text'' line count w hand c given row end finished = (
  open_nothing hand finished.0,
  of_then text text' text'' (Begins w) (λ t t'. t' ≡ t) (λ t t'. (t' ≡ t) ⊎ ((hand ≡ []) × EndsAt (line_at t) t')) given finished.1
      (λ t t' t'' e same. inr (finished.0, subst (λ (x : LineCut). EndsAt x t'') (sym e) (row ∙ ap Ok (is_end_is c end), sym same))),
)

cut_not_open : (c : LineCut) → cut_needs_read c ≡ false → is_open c ≡ false
cut_not_open (Line line rest) h = refl
cut_not_open Long h = refl
cut_not_open Open h = h

-- where no read is needed, a whole line or 256 bytes are in hand
pub not_open : (hand : List ℕ) → needs_read hand ≡ false → is_open (line_at hand) ≡ false
not_open hand h = cut_not_open (line_at hand) h

-- where `end` is in hand and no read is needed, something stands behind it
pub behind_end : (hand w rest : List ℕ) (c : Command) → line_at hand ≡ Line w rest → command_of w ≡ Ok c → is_end c ≡ true → needs_read hand ≡ false → 0 < length rest
behind_end hand w [] c e row end h = absurd (false≢true (sym h ∙ ap cut_needs_read e ∙ ap (ends_hand []) row ∙ end))
behind_end hand w (b ∷ rest) c e row end h = omega arith
