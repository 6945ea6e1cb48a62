-- The lines after the images.
use Rattle.std.specs.Prelude.{ℕ, zero, suc, ◌+◌, if◌then◌else◌, nat_lt, Bool, true, false, List, []}
use Rattle.std.specs.Prelude.{◌∷◌, ◌++◌, Result, Ok, Err}
use Rattle.sched_text.specs.Lines.{LineCut, Line, Long, Open, line_at}
use Rattle.sched_text.specs.Rows.{command_of}
use Rattle.sched_text.specs.Header.{refuse}
use Rattle.sched_text.specs.declared.schedule.Command.{Command}
use Rattle.sched_text.specs.declared.schedule.Command.TheVariants as command
use Rattle.sched_text.specs.declared.faults.Reason.{Reason}
use Rattle.sched_text.specs.declared.faults.Reason.TheVariants as reason
use Rattle.sched_text.specs.declared.faults.LineFault.{LineFault}
use Rattle.sched_text.specs.declared.limits.TheConstants.{MAX_COMMANDS}

abbrev pub is_end : Command → Bool
is_end command.End = true
is_end _ = false

-- nothing follows the line `end`
abbrev pub end_at : ℕ → List ℕ → Result (Command × List ℕ) LineFault
end_at line [] = Ok (command.End, [])
end_at line (b ∷ rest) = refuse (line + 1) reason.Trailing

-- a command line that 1,048,576 others may stand before; `end` isn't counted
abbrev pub counted_at : ℕ → ℕ → List ℕ → Command → Result (Command × List ℕ) LineFault
counted_at line count rest command =
    if is_end command then end_at line rest
    else if nat_lt count MAX_COMMANDS then Ok (command, rest)
    else refuse line reason.TooMany

abbrev pub command_row : ℕ → ℕ → List ℕ → Result Command Reason
    → Result (Command × List ℕ) LineFault
command_row line count rest (Err why) = refuse line why
command_row line count rest (Ok command) = counted_at line count rest command

abbrev pub command_cut : ℕ → ℕ → LineCut → Result (Command × List ℕ) LineFault
command_cut line count (Line words rest) = command_row line count rest (command_of words)
command_cut line count Long = refuse line reason.LongLine
command_cut line count Open = refuse line reason.Cut

-- the command at the front of a text, where its line has this number and so many command lines
-- stand before it
abbrev pub command_at : ℕ → ℕ → List ℕ → Result (Command × List ℕ) LineFault
command_at line count text = command_cut line count (line_at text)

abbrev pub with_command : List Command → Result (Command × List ℕ) LineFault
    → Result (List Command × List ℕ) LineFault
with_command before (Ok x) = Ok (before ++ x.0 ∷ [], x.1)
with_command before (Err f) = Err f

-- one more command
abbrev pub next_command : ℕ → ℕ → Result (List Command × List ℕ) LineFault
    → Result (List Command × List ℕ) LineFault
next_command line count (Err f) = Err f
next_command line count (Ok x) = with_command x.0 (command_at line count x.1)

-- the first commands of a text whose lines come after line n, and what follows them
unfoldable pub commands_after : ℕ → ℕ → List ℕ → Result (List Command × List ℕ) LineFault
commands_after zero n text = Ok ([], text)
commands_after (suc count) n text = next_command (n + suc count) count (commands_after count n text)

-- whether `end` is in hand, and nothing behind it
abbrev pub ends_hand : List ℕ → Result Command Reason → Bool
ends_hand [] (Ok command) = is_end command
ends_hand (b ∷ rest) (Ok command) = false
ends_hand rest (Err why) = false

-- whether a command can't be answered from the bytes in hand: they hold neither a whole line nor
-- 256 bytes, or `end` and nothing more
abbrev pub cut_needs_read : LineCut → Bool
cut_needs_read (Line line rest) = ends_hand rest (command_of line)
cut_needs_read Long = false
cut_needs_read Open = true

abbrev pub needs_read : List ℕ → Bool
needs_read hand = cut_needs_read (line_at hand)
