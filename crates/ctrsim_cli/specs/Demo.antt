-- The schedule of `demo N`, and the line that says what its samples come to.
use Rattle.std.specs.Prelude.{ℕ, zero, suc, ◌+◌, ◌*◌, ◌/◌, ◌%◌, List, [], ◌∷◌, ◌++◌, length}
use Rattle.std.specs.Prelude.{replicate, Option, Some, None, codes}
use Rattle.std.specs.List.{sum_by, flat_map}
use Rattle.ctr_port.specs.Sink.{GainsPart}
use Rattle.perf_sample.specs.declared.sample.Sample.{Sample}
use Rattle.rv_hart.specs.Hart.{HartState}
use Rattle.sched_text.specs.declared.schedule.Command.{Command}
use Rattle.sched_text.specs.declared.schedule.Command.TheVariants.{Run, Sample as Sampled}
use Rattle.sched_text.specs.declared.schedule.Header.{Header}
use Rattle.sched_text.specs.declared.schedule.TaskLine.{TaskLine}
use Rattle.ctrsim_cli.specs.declared.fault.Fault.{Fault}
use Rattle.ctrsim_cli.specs.declared.fault.Fault.TheVariants.{WriteFault, Memory}
use Rattle.ctrsim_cli.specs.RunEnds.{Nothing}
use Rattle.ctrsim_cli.specs.SampleText.{dec}
use Rattle.ctrsim_cli.specs.Schedule.{Schedule, samples_of, output_of, HartsAreOf}

-- 008000EF, jal x1, 8; 00000013, nop; 00008067, jalr x0, x1
abbrev pub demo_image : List ℕ
demo_image = 0xEF ∷ 0x00 ∷ 0x80 ∷ 0x00 ∷ 0x13 ∷ 0x00 ∷ 0x00 ∷ 0x00 ∷ 0x67 ∷ 0x80 ∷ 0x00 ∷ 0x00 ∷ []

-- `task 12 12 D 4 0 7`
abbrev pub demo_line : ℕ → TaskLine
demo_line t = record {
  image = 12;
  mem = 12;
  depth = t % 5;
  mctrctl = 4;
  vsctrctl = 0;
  period = 7;
}

-- those of the first so many tasks
abbrev pub demo_lines : ℕ → List TaskLine
demo_lines zero = []
demo_lines (suc t) = demo_lines t ++ demo_line t ∷ []

abbrev pub demo_header : Header
demo_header = record { harts = 4; layout = 0x803; branch = 0; tasks = demo_lines 8; irqs = [] }

-- `run H T S` and `sample T` of turn i
abbrev pub run_of_turn : ℕ → Command
run_of_turn i = Run ((i + i / 8) % 4) (i % 8) (1 + (i * i + 3 * i) % 97)

abbrev pub sample_of_turn : ℕ → Command
sample_of_turn i = Sampled (i % 8)

-- the first so many turns
abbrev pub turns : ℕ → List Command
turns zero = []
turns (suc n) = turns n ++ run_of_turn n ∷ sample_of_turn n ∷ []

abbrev pub demo_schedule : ℕ → Schedule
demo_schedule n = record {
  header = demo_header;
  images = replicate 8 demo_image;
  commands = turns n;
}

-- how many branches samples have together
abbrev pub branch_count : List Sample → ℕ
branch_count samples = sum_by (λ x. length x.branches) samples

-- `samples A bytes B branches C`
unfoldable pub summary_line : ℕ → ℕ → ℕ → List ℕ
summary_line samples bytes branches = codes "samples " ++ dec samples ++ codes " bytes " ++ dec bytes
    ++ codes " branches " ++ dec branches ++ 10 ∷ []

-- the number of samples, the length of the output that `run` would give, and the number of branches
abbrev pub summary_of : Schedule → List ℕ
summary_of s =
    summary_line (length (samples_of s)) (length (output_of s)) (branch_count (samples_of s))

-- by the fault of the call: the summary was written, or a proper prefix of it, and all turns were
-- performed; or there was no memory, and nothing was done
abbrev pub DemoEnds : {K : Type 0} → (K → List ℕ → K → Type 0) → K → K → List HartState → ℕ
    → Option Fault → Type 0
DemoEnds gained old new harts n None = gained old (summary_of (demo_schedule n)) new
    × HartsAreOf (demo_schedule n) harts
DemoEnds gained old new harts n (Some WriteFault) =
    GainsPart gained old new (summary_of (demo_schedule n)) × HartsAreOf (demo_schedule n) harts
DemoEnds gained old new harts n (Some Memory) = Nothing gained old new harts
DemoEnds gained old new harts n (Some _) = ⊥

-- a line of text
abbrev pub line : List ℕ → List ℕ
line row = row ++ 10 ∷ []

abbrev pub task_row : ℕ → List ℕ
task_row t = codes "task 12 12 " ++ (dec (t % 5) ++ codes " 4 0 7")

abbrev pub task_rows : ℕ → List (List ℕ)
task_rows zero = []
task_rows (suc t) = task_rows t ++ task_row t ∷ []

abbrev pub header_rows : List (List ℕ)
header_rows = codes "ctr-schedule 1" ∷ codes "harts 4" ∷ codes "layout 803"
    ∷ (task_rows 8 ++ codes "images" ∷ [])

abbrev pub run_row : ℕ → ℕ → ℕ → List ℕ
run_row h t s = codes "run " ++ (dec h ++ (codes " " ++ (dec t ++ (codes " " ++ dec s))))

abbrev pub sample_row : ℕ → List ℕ
sample_row t = codes "sample " ++ dec t

-- the lines of turn i
abbrev pub turn_text : ℕ → List ℕ
turn_text i = line (run_row ((i + i / 8) % 4) (i % 8) (1 + (i * i + 3 * i) % 97))
    ++ line (sample_row (i % 8))

abbrev pub turns_text : ℕ → List ℕ
turns_text zero = []
turns_text (suc n) = turns_text n ++ turn_text n

-- the same schedule as a text
abbrev pub demo_text : ℕ → List ℕ
demo_text n = flat_map line header_rows
    ++ (flat_map (λ image. image) (replicate 8 demo_image) ++ (turns_text n ++ line (codes "end")))
