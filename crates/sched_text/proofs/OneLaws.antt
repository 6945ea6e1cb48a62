-- What is whole in a text is one of each.
use Rattle.std.proofs.Common.{◌≡◌, ℕ, ◌+◌, List, drop, take, Ok, Err, ap, ◌∙◌, sym, subst, inl, inr, arith}
use Rattle.std.proofs.lemmas.Bool.{cases_eq, cases_lt}
use Rattle.sched_text.specs.Header.{HasHeader}
use Rattle.sched_text.specs.Commands.{command_at, commands_after}
use Rattle.sched_text.specs.Text.{first_images_len, HasImage, CommandsBreak, OneOfEach}
use Rattle.sched_text.specs.declared.schedule.Header.{Header}
use Rattle.sched_text.specs.declared.schedule.Command.{Command}
use Rattle.sched_text.specs.declared.faults.LineFault.{LineFault}
use Rattle.sched_text.proofs.BreakLaws.{same_lines, same_header, same_commands, sooner, behind_images}

one_header : (t : List ℕ) (m n : ℕ) (p q : Header) (r s : List ℕ) → HasHeader t m p r → HasHeader t n q s → (m ≡ n) × (p ≡ q) × (r ≡ s)
one_header t m n p q r s a b =
    let same = same_header t m n p q r s a b in (
      same_lines t m n p q r s a b,
      ap (λ (h : Header × List ℕ). h.0) same,
      ap (λ (h : Header × List ℕ). h.1) same,
    )

-- the bytes of the image of a task, by the header
abbrev image_of : ℕ → Header × List ℕ → List ℕ
image_of task h = drop (first_images_len h.0 task) (take (first_images_len h.0 (task + 1)) h.1)

one_image : (t : List ℕ) (task : ℕ) (first second : List ℕ) → HasImage t task first → HasImage t task second → first ≡ second
one_image t task first second a b =
    a.bytes ∙ ap (image_of task) (same_header t a.lines b.lines a.progress b.progress a.rest b.rest a.header b.header) ∙ sym b.bytes

-- the commands before a line that is refused
commands_before : (n m base : ℕ) (t : List ℕ) (x y : List Command × List ℕ) (f g : LineFault) → commands_after n base t ≡ Ok x → command_at (base + (n + 1)) n x.1 ≡ Err f
    → commands_after m base t ≡ Ok y → command_at (base + (m + 1)) m y.1 ≡ Err g → x ≡ y
commands_before n m base t x y f g a r b s =
    elim (cases_eq n m) [
      | inl e ↦ same_commands x y (commands_after n base t) a (rw e b)
      | inr other ↦ elim (cases_lt n m) [ inl less ↦ absurd (sooner n m base t x y f a r b less) | inr more ↦ absurd (sooner m n base t y x g b s a (omega (arith, more, other))) ]
    ]

one_list_before : (t : List ℕ) (f g : LineFault) (a : CommandsBreak t f) (b : CommandsBreak t g) → a.commands ≡ b.commands
one_list_before t f g a b =
    let lines : b.lines ≡ a.lines = same_lines t b.lines a.lines b.begun.progress a.begun.progress b.begun.rest a.begun.rest b.begun.header a.begun.header in
    let header = same_header t b.lines a.lines b.begun.progress a.begun.progress b.begun.rest a.begun.rest b.begun.header a.begun.header in
    let reads : commands_after b.count a.lines (behind_images (a.begun.progress, a.begun.rest)) ≡ Ok (b.commands, b.behind) =
    subst (λ (h : Header × List ℕ). commands_after b.count a.lines (behind_images h) ≡ Ok (b.commands, b.behind)) header
    (subst (λ (n : ℕ). commands_after b.count n (behind_images (b.begun.progress, b.begun.rest)) ≡ Ok (b.commands, b.behind)) lines b.begun.reads) in
    let refused : command_at (a.lines + (b.count + 1)) b.count b.behind ≡ Err g = subst (λ (n : ℕ). command_at (n + (b.count + 1)) b.count b.behind ≡ Err g) lines b.refused in
    ap (λ (w : List Command × List ℕ). w.0)
    (commands_before a.count b.count a.lines (behind_images (a.begun.progress, a.begun.rest)) (a.commands, a.behind) (b.commands, b.behind) f g a.begun.reads a.refused reads refused)

pub one_of_each : (t : List ℕ) → OneOfEach t
one_of_each t = record { header = one_header t; image = one_image t; commands = one_list_before t }
