-- The whole text: where it breaks first.
use Rattle.std.specs.Prelude.{◌≡◌, ◌⊎◌, ℕ, ◌+◌, ◌<◌, ◌≤◌, Bool, true, false, List, length, take}
use Rattle.std.specs.Prelude.{drop, Ok, Err}
use Rattle.std.specs.List.{sum_by, list_any}
use Rattle.sched_text.specs.Header.{HasHeader, HeaderBreak}
use Rattle.sched_text.specs.Commands.{is_end, command_at, commands_after}
use Rattle.sched_text.specs.declared.schedule.Header.{Header}
use Rattle.sched_text.specs.declared.schedule.Command.{Command}
use Rattle.sched_text.specs.declared.faults.Reason.TheVariants as reason
use Rattle.sched_text.specs.declared.faults.LineFault.{LineFault}

-- how many bytes the images have together
abbrev pub images_len : Header → ℕ
images_len p = sum_by (λ t. t.image) p.tasks

-- how many bytes the images of the first tasks have together
abbrev pub first_images_len : Header → ℕ → ℕ
first_images_len p tasks = sum_by (λ t. t.image) (take tasks p.tasks)

-- the image of a task is whole: its bytes, behind those of the tasks before it
pub record HasImage (text : List ℕ) (task : ℕ) (image : List ℕ) : Type 0 where
  pub lines : ℕ
  pub progress : Header
  pub rest : List ℕ
  pub header : HasHeader text lines progress rest
  pub there : task < length progress.tasks
  pub whole : first_images_len progress (task + 1) ≤ length rest
  pub bytes : image
      ≡ drop (first_images_len progress task) (take (first_images_len progress (task + 1)) rest)

-- the text ends inside the images, which counts for the line `images`
pub record ImagesBreak (text : List ℕ) (f : LineFault) : Type 0 where
  pub lines : ℕ
  pub progress : Header
  pub rest : List ℕ
  pub header : HasHeader text lines progress rest
  pub short : length rest < images_len progress
  pub fault : f ≡ record { line = lines; reason = reason.Cut }

abbrev pub has_end : List Command → Bool
has_end commands = list_any is_end commands

-- the header and the images are whole, and so many commands after them
pub record HasCommands (text : List ℕ) (lines count : ℕ) (commands : List Command) (behind : List ℕ)
    : Type 0 where
  pub progress : Header
  pub rest : List ℕ
  pub header : HasHeader text lines progress rest
  pub images : images_len progress ≤ length rest
  pub reads : commands_after count lines (drop (images_len progress) rest) ≡ Ok (commands, behind)

-- the line after those that are whole is refused, or what follows `end`
pub record CommandsBreak (text : List ℕ) (f : LineFault) : Type 0 where
  pub lines : ℕ
  pub count : ℕ
  pub commands : List Command
  pub behind : List ℕ
  pub begun : HasCommands text lines count commands behind
  pub goes_on : has_end commands ≡ false
  pub refused : command_at (lines + (count + 1)) count behind ≡ Err f

-- the first line of a text that is refused, with the first rule that applies to it
abbrev pub TextBreak : List ℕ → LineFault → Type 0
TextBreak text f = HeaderBreak text f ⊎ ImagesBreak text f ⊎ CommandsBreak text f

-- a text without a break: its commands end with `end`, and nothing follows
pub record IsWhole (text : List ℕ) (commands : List Command) : Type 0 where
  pub lines : ℕ
  pub count : ℕ
  pub behind : List ℕ
  pub has : HasCommands text lines count commands behind
  pub ends : has_end commands ≡ true

-- the text is whole or broken, and not both; and a whole text has one list of commands
pub record WholeOrBroken (text : List ℕ) : Type 0 where
  pub some : ((commands : List Command) × IsWhole text commands)
      ⊎ ((f : LineFault) × TextBreak text f)
  pub not_both : (commands : List Command) (f : LineFault) → IsWhole text commands
      → TextBreak text f → ⊥
  pub one : (first second : List Command) → IsWhole text first → IsWhole text second
      → first ≡ second

-- what is whole before a break, or before the end, is one of each: a header, an image of each task,
-- and a list of commands
pub record OneOfEach (text : List ℕ) : Type 0 where
  pub header : (m n : ℕ) (p q : Header) (r s : List ℕ) → HasHeader text m p r
      → HasHeader text n q s → (m ≡ n) × (p ≡ q) × (r ≡ s)
  pub image : (task : ℕ) (first second : List ℕ) → HasImage text task first
      → HasImage text task second → first ≡ second
  pub commands : (f g : LineFault) (first : CommandsBreak text f) (second : CommandsBreak text g)
      → first.commands ≡ second.commands
