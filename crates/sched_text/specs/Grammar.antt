-- The header by its grammar: the lines that a whole header is made of, and what they say.
use Rattle.std.specs.Prelude.{◌≡◌, ◌≢◌, ℕ, ◌<◌, true, List, [], ◌∷◌, ◌++◌, map, length, Result, Ok, codes}
use Rattle.std.specs.List.{All, flat_map}
use Rattle.sched_text.specs.Rows.{◌>>=◌, has_form, version_of, harts_of, layout_of, branch_of}
use Rattle.sched_text.specs.Rows.{task_of, irq_of}
use Rattle.sched_text.specs.Header.{irq_line}
use Rattle.sched_text.specs.declared.rows.Version.{Version}
use Rattle.sched_text.specs.declared.rows.Version.TheVariants as version
use Rattle.sched_text.specs.declared.schedule.Header.{Header}
use Rattle.sched_text.specs.declared.schedule.TaskLine.{TaskLine}
use Rattle.sched_text.specs.declared.schedule.IrqLine.{IrqLine}
use Rattle.sched_text.specs.declared.faults.Reason.{Reason}
use Rattle.sched_text.specs.declared.limits.TheConstants.{LINE_FEED, LINE_LIMIT}

-- a line: fewer than 256 bytes, and no line feed among them
pub record IsLine (row : List ℕ) : Type 0 where
  pub few : length row < LINE_LIMIT
  pub no_feed : All (λ b. b ≢ LINE_FEED) row

-- some lines, each with its line feed
abbrev pub spelled : List (List ℕ) → List ℕ
spelled rows = flat_map (λ row. row ++ LINE_FEED ∷ []) rows

-- version 1 has no branch line, and the branch word 0; version 2 has one
abbrev pub HasBranch : Version → List (List ℕ) → ℕ → Type 0
HasBranch version.One rows word = (rows ≡ []) × (word ≡ 0)
HasBranch version.Two rows word = (row : List ℕ) × (rows ≡ row ∷ []) × (branch_of row ≡ Ok word)

-- ctr-schedule VERSION, harts N, layout HEX, and in version 2 branch HEX
pub record IsFront (rows : List (List ℕ)) (harts layout branch : ℕ) : Type 0 where
  pub version : Version
  pub version_row : List ℕ
  pub harts_row : List ℕ
  pub layout_row : List ℕ
  pub branch_rows : List (List ℕ)
  pub rows_are : rows ≡ version_row ∷ harts_row ∷ layout_row ∷ branch_rows
  pub says_version : version_of version_row ≡ Ok version
  pub says_harts : harts_of harts_row ≡ Ok harts
  pub says_layout : layout_of layout_row ≡ Ok layout
  pub says_branch : HasBranch version branch_rows branch

-- what a task line says, and an irq line
abbrev pub irq_line_of : List ℕ → Result IrqLine Reason
irq_line_of row = do
  irq ← irq_of row
  Ok (irq_line irq)

abbrev pub says_tasks : List TaskLine → List (Result TaskLine Reason)
says_tasks tasks = map (λ task. Ok task) tasks

abbrev pub says_irqs : List IrqLine → List (Result IrqLine Reason)
says_irqs irqs = map (λ irq. Ok irq) irqs

-- the front, the task lines, and the irq lines
pub record AreRows (rows : List (List ℕ)) (h : Header) : Type 0 where
  pub front : List (List ℕ)
  pub task_rows : List (List ℕ)
  pub irq_rows : List (List ℕ)
  pub rows_are : rows ≡ front ++ (task_rows ++ irq_rows)
  pub first : IsFront front h.harts h.layout h.branch
  pub tasks : map task_of task_rows ≡ says_tasks h.tasks
  pub irqs : map irq_line_of irq_rows ≡ says_irqs h.irqs

-- these and the line `images`
pub record AreHeaderRows (rows : List (List ℕ)) (h : Header) : Type 0 where
  pub before : List (List ℕ)
  pub images_row : List ℕ
  pub rows_are : rows ≡ before ++ images_row ∷ []
  pub are : AreRows before h
  pub images : has_form images_row (codes "images") 1 ≡ true

-- the text is so many such lines, and the rest
pub record IsGrammatical (text : List ℕ) (lines : ℕ) (h : Header) (rest : List ℕ) : Type 0 where
  pub rows : List (List ℕ)
  pub text_is : text ≡ spelled rows ++ rest
  pub count : length rows ≡ lines
  pub are_lines : All IsLine rows
  pub are : AreHeaderRows rows h
