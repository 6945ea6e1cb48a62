-- The first line of the bytes in hand.
use Rattle.std.specs.Prelude.{◌≡◌, ℕ, ◌+◌, ◌<◌, Bool, true, false, List, ◌++◌, length, take, drop}
use Rattle.std.specs.Prelude.{Option, Result, Ok, Err}
use Rattle.std.specs.Io.KnownBytes.{IsAtEnd}
use Rattle.sched_text.specs.Lines.{LineCut, Line, Long, Open, line_at}
use Rattle.sched_text.specs.declared.lines.Seen.{Seen}
use Rattle.sched_text.specs.declared.lines.Seen.TheVariants as seen
use Rattle.sched_text.specs.declared.lines.Stop.{Stop}
use Rattle.sched_text.specs.declared.lines.Stop.TheVariants as stop

abbrev pub Sees : List ℕ → Seen → Type 0
Sees hand (seen.Line n) =
    (n < length hand) × (line_at hand ≡ Line (take n hand) (drop (n + 1) hand))
Sees hand seen.Long = line_at hand ≡ Long
Sees hand seen.Open = line_at hand ≡ Open

abbrev pub is_open : LineCut → Bool
is_open (Line line rest) = false
is_open Long = false
is_open Open = true

-- the same line with bytes in front of it
abbrev pub under : List ℕ → LineCut → LineCut
under front (Line line rest) = Line (front ++ line) rest
under front Long = Long
under front Open = Open

-- what is in hand after a line was looked for
abbrev pub HasLine : List ℕ → Option (List ℕ) → Result ℕ Stop → Type 0
HasLine hand left (Ok n) =
    (n < length hand) × (line_at hand ≡ Line (take n hand) (drop (n + 1) hand))
HasLine hand left (Err stop.Long) = line_at hand ≡ Long
HasLine hand left (Err stop.Cut) = (line_at hand ≡ Open) × IsAtEnd left
HasLine hand left (Err stop.Failed) = line_at hand ≡ Open
