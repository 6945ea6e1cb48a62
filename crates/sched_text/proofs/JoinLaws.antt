-- One call of a reader after another.
use Rattle.std.proofs.Common.{◌≡◌, ℕ, suc, ◌+◌, ◌-◌, ◌<◌, ◌≤◌, List, [], ◌∷◌, ◌++◌, length, take, drop, if◌then◌else◌, Bool, true, false, nat_lt, Option, None, Some, Result, Ok, Err, refl, sym, ap, ◌∙◌, subst, arith, add-one, drop-drop, get_or}
use Rattle.std.proofs.lemmas.List.{length-drop, drop-take}
use Rattle.std.proofs.lemmas.List.Sums.{sum_by_more, sum_by-take-le}
use Rattle.std.proofs.lemmas.Bool.{or_from}
use Rattle.ctr_port.specs.InHand.{Of}
use Rattle.ctr_port.proofs.InHand.{of_then}
use Rattle.sched_text.specs.Header.{refuse}
use Rattle.sched_text.specs.Images.{image_at, ImageAnswer, IsWithin}
use Rattle.sched_text.specs.Commands.{is_end, command_at, commands_after, next_command, with_command}
use Rattle.sched_text.specs.Reader.{count_after}
use Rattle.sched_text.specs.Text.{has_end}
use Rattle.sched_text.specs.declared.schedule.TaskLine.{TaskLine}
use Rattle.sched_text.specs.declared.schedule.Command.{Command}
use Rattle.sched_text.specs.declared.faults.LineFault.{LineFault}
use Rattle.sched_text.specs.declared.faults.Reason.TheVariants as reason
use Rattle.sched_text.specs.declared.faults.ScheduleFault.{ScheduleFault}
use Rattle.sched_text.specs.declared.faults.ScheduleFault.TheVariants as fault
use Rattle.sched_text.specs.Outcomes.{total, IsBehind, IsShort, ImagesAnswer, FirstCommands, HasFirstCommands, IsImage}
use Rattle.sched_text.proofs.FrontLaws.{end_more, parts}

-- images
short_by : (b : Bool) (line len : ℕ) (t : List ℕ) (f : LineFault) → nat_lt (length t) len ≡ b
    → ◌≡◌ {A = Result (List ℕ × List ℕ) LineFault} (if b then refuse line reason.Cut else Ok (take len t, drop len t)) (Err f) → IsShort line len f t
short_by true line len t f is e = (grind (arith, is), cc)
short_by false line len t f is e = absurd cc

is_short : (line len : ℕ) (t : List ℕ) (f : LineFault) → image_at line len t ≡ Err f → IsShort line len f t
is_short line len t f e = short_by (nat_lt (length t) len) line len t f refl e

pub stops_short : (f : ScheduleFault) (line line' a b len : ℕ) (x y z : Option (List ℕ)) (hand : List ℕ) → line' ≡ line → a + b ≤ len → Of x y (IsBehind a) → ImageAnswer line' b y z hand (Err f) → ImagesAnswer line len x z hand (Err f)
stops_short (fault.Line f) line line' a b len x y z hand same fits passed stops =
    of_then x y z (IsBehind a) (λ t t'. image_at line' b t ≡ Err f) (λ t t'. IsShort line len f t) passed stops
    (λ t t' t'' p e.
    let s = is_short line' b t' f e in
    let left : length t' ≡ length t - a = ap length p.1 ∙ length-drop a t in
    (omega (arith, left, s.0, p.0, fits), s.1 ∙ ap (λ (k : ℕ). record { line = k; reason = reason.Cut }) same))
stops_short fault.ReadFault line line' a b len x y z hand same fits passed stops = (
  stops.0,
  of_then x y z (IsBehind a) (IsWithin b) (IsWithin len) passed stops.1
      (λ t t' t'' p w. (a + w.0, omega (arith, w.1, fits), w.2 ∙ ap (drop w.0) p.1 ∙ drop-drop w.0 a t)),
)
stops_short fault.Memory line line' a b len x y z hand same fits passed stops = tt

pub fits_in : (tasks : List TaskLine) (i : ℕ) (d : TaskLine) → i < length tasks → total (take i tasks) + (get_or tasks i d).image ≤ total tasks
fits_in tasks i d less = omega (arith, sum_by_more (λ (t : TaskLine). t.image) tasks i d less, sum_by-take-le (λ (t : TaskLine). t.image) tasks (i + 1))

-- commands
pub no_commands : (lines : ℕ) (a : Option (List ℕ)) → Of a a (HasFirstCommands lines 0)
unfolding commands_after
no_commands lines None = tt
no_commands lines (Some t) = ([], (refl, refl))

pub counted_one : (n : ℕ) (c : Command) → is_end c ≡ false → count_after n (Ok c) ≡ n + 1
counted_one n c e = rw e refl

gives_more : (lines count : ℕ) (cs : List Command) (c : Command) (t t' t'' : List ℕ) → is_end c ≡ false → FirstCommands lines count cs t t' → command_at (lines + (count + 1)) count t' ≡ Ok (c, t'')
    → FirstCommands lines (count + 1) (cs ++ c ∷ []) t t''
unfolding commands_after
gives_more lines count cs c t t' t'' other given next = (
  rw (add-one count) (ap (next_command (lines + suc count) count) given.0 ∙ ap (with_command cs) (rw (add-one count) at next)),
  end_more cs c ∙ or_from (has_end cs) (is_end c) given.1 other,
)

pub given_more : (lines count number : ℕ) (c : Command) (a b d : Option (List ℕ)) → number ≡ lines + (count + 1) → is_end c ≡ false
    → Of a b (HasFirstCommands lines count) → Of b d (λ t t'. command_at number count t ≡ Ok (c, t')) → Of a d (HasFirstCommands lines (count + 1))
given_more lines count number c a b d is other given next =
    of_then a b d (HasFirstCommands lines count) (λ t t'. command_at number count t ≡ Ok (c, t')) (HasFirstCommands lines (count + 1)) given next
    (λ x y z p q. (p.0 ++ c ∷ [], gives_more lines count p.0 c x y z other p.1 (subst (λ (k : ℕ). command_at k count y ≡ Ok (c, z)) is q)))

-- the image of a task
is_image_by : (b : Bool) (line len : ℕ) (t t' image : List ℕ) → nat_lt (length t) len ≡ b
    → ◌≡◌ {A = Result (List ℕ × List ℕ) LineFault} (if b then refuse line reason.Cut else Ok (take len t, drop len t)) (Ok (image, t')) → (len ≤ length t) × (image ≡ take len t)
is_image_by true line len t t' image is e = absurd cc
is_image_by false line len t t' image is e = (grind (arith, is), sym (parts (take len t) image (drop len t) t' e).0)

is_image : (line i : ℕ) (d : TaskLine) (tasks : List TaskLine) (t t' t'' image : List ℕ) → i < length tasks → IsBehind (total (take i tasks)) t t' → image_at line (get_or tasks i d).image t' ≡ Ok (image, t'') → IsImage tasks i image t
is_image line i d tasks t t' t'' image less p e =
    let len = (get_or tasks i d).image in
    let before = total (take i tasks) in
    let s = is_image_by (nat_lt (length t') len) line len t' t'' image refl e in
    let left : length t' ≡ length t - before = ap length p.1 ∙ length-drop before t in
    let both : total (take (i + 1) tasks) ≡ before + len = sum_by_more (λ (t : TaskLine). t.image) tasks i d less in (
      less,
      omega (arith, both, left, s.0, p.0),
      s.1 ∙ ap (take len) p.1 ∙ sym (drop-take before len t) ∙ ap (λ (k : ℕ). drop before (take k t)) (sym both),
    )

pub image_is : (line i : ℕ) (d : TaskLine) (tasks : List TaskLine) (image : List ℕ) (x y z : Option (List ℕ)) → i < length tasks → Of x y (IsBehind (total (take i tasks)))
    → Of y z (λ t t'. image_at line (get_or tasks i d).image t ≡ Ok (image, t')) → Of x z (λ t t'. IsImage tasks i image t)
image_is line i d tasks image x y z less passed given =
    of_then x y z (IsBehind (total (take i tasks))) (λ t t'. image_at line (get_or tasks i d).image t ≡ Ok (image, t')) (λ t t'. IsImage tasks i image t) passed given
    (λ t t' t'' p e. is_image line i d tasks t t' t'' image less p e)
