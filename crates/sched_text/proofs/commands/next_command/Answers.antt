use Rattle.std.proofs.Common.{◌≡◌, ◌∙◌, ◌+◌, false, take, drop, sym, ap, subst, Ok, Err}
use Rattle.ctr_port.specs.InHand.{text_of}
use Rattle.sched_text.specs.Commands.{needs_read}
use Rattle.sched_text.specs.Rows.{command_of}
use Rattle.sched_text.specs.InHand.{HasLine}
use Rattle.sched_text.proofs.CommandLaws.{long_refused, line_passed, row_refused, row_taken, row_over, end_shows, not_open, behind_end}
use Rattle.sched_text.proofs.commands.next_command.Goals as goal

pub returns-in-Long-clause-shows : goal.returns-in-Long-clause-shows
returns-in-Long-clause-shows g c =
    let left = g.S.Source.left c.args.source.now in
    let left' = g.S.Source.left c.read_line.new.source in
    long_refused c.args.window.now c.read_line.new.window left left' c.args.line c.args.commands c.in-Err.ensures.same (subst (HasLine c.read_line.new.window left') (c.in-Err.is ∙ ap Err c.in-Long.is) c.read_line.ensures.line)

pub returns-in-Err-row-clause-shows : goal.returns-in-Err-row-clause-shows
returns-in-Err-row-clause-shows g c =
    let left = g.S.Source.left c.args.source.now in
    let left' = g.S.Source.left c.read_line.new.source in
    let front = c.split_at.result.0.now in
    let given = line_passed c.args.window.now c.read_line.new.window c.pass.new.self c.bytes.result.now front c.in-Ok.count left left' c.in-Ok.ensures.same c.in-Ok.ensures.line.1 c.bytes.ensures.bytes c.split_at.ensures.front c.pass.ensures in
    row_refused (text_of c.args.window.now left) (text_of c.pass.new.self left') c.args.line c.args.commands front c.in-Err-row.reason given (sym c.command_row-row.ensures.command ∙ c.in-Err-row.is)

pub returns-then-commands-ge-MAX_COMMANDS-clause-shows : goal.returns-then-commands-ge-MAX_COMMANDS-clause-shows
returns-then-commands-ge-MAX_COMMANDS-clause-shows g c =
    let left = g.S.Source.left c.args.source.now in
    let left' = g.S.Source.left c.read_line.new.source in
    let front = c.split_at.result.0.now in
    let given = line_passed c.args.window.now c.read_line.new.window c.pass.new.self c.bytes.result.now front c.in-Ok.count left left' c.in-Ok.ensures.same c.in-Ok.ensures.line.1 c.bytes.ensures.bytes c.split_at.ensures.front c.pass.ensures in
    row_over (text_of c.args.window.now left) (text_of c.pass.new.self left') c.args.line c.args.commands front c.in-Ok-row.command given (sym c.command_row-row.ensures.command ∙ c.in-Ok-row.is) (sym c.is_end.ensures ∙ c.if-is_end.false) c.if-commands-ge-MAX_COMMANDS.true

pub returns-clause-shows : goal.returns-clause-shows
returns-clause-shows g c =
    let left = g.S.Source.left c.args.source.now in
    let left' = g.S.Source.left c.read_line.new.source in
    let front = c.split_at.result.0.now in
    let given = line_passed c.args.window.now c.read_line.new.window c.pass.new.self c.bytes.result.now front c.in-Ok.count left left' c.in-Ok.ensures.same c.in-Ok.ensures.line.1 c.bytes.ensures.bytes c.split_at.ensures.front c.pass.ensures in
    row_taken (text_of c.args.window.now left) (text_of c.pass.new.self left') c.args.line c.args.commands front c.in-Ok-row.command given (sym c.command_row-row.ensures.command ∙ c.in-Ok-row.is) (sym c.is_end.ensures ∙ c.if-is_end.false) c.if-commands-ge-MAX_COMMANDS.false

pub returns-then-is_end-clause-shows : goal.returns-then-is_end-clause-shows
returns-then-is_end-clause-shows g c =
    let left = g.S.Source.left c.args.source.now in
    let left' = g.S.Source.left c.read_line.new.source in
    let left'' = g.S.Source.left c.finish.new.source in
    let front = c.split_at.result.0.now in
    let given = line_passed c.args.window.now c.read_line.new.window c.pass.new.self c.bytes.result.now front c.in-Ok.count left left' c.in-Ok.ensures.same c.in-Ok.ensures.line.1 c.bytes.ensures.bytes c.split_at.ensures.front c.pass.ensures in
    rw c.last.ensures
    (end_shows c.finish.result (text_of c.args.window.now left) (text_of c.pass.new.self left') (text_of c.finish.new.window left'') c.args.line c.args.commands front c.finish.new.window c.in-Ok-row.command
    given (sym c.command_row-row.ensures.command ∙ c.in-Ok-row.is) (sym c.is_end.ensures ∙ c.if-is_end.true) c.finish.ensures.finishes)

pub returns-then-is_end-clause-still : goal.returns-then-is_end-clause-still
returns-then-is_end-clause-still g c = λ whole.
    let same = c.read_line.ensures.still (not_open c.args.window.now whole) in
    let hand = c.read_line.new.window in
    let front : c.split_at.result.0.now ≡ take c.in-Ok.count hand = c.split_at.ensures.front ∙ ap (take c.in-Ok.count) c.bytes.ensures.bytes in
    let row : command_of (take c.in-Ok.count hand) ≡ Ok c.in-Ok-row.command = ap command_of (sym front) ∙ sym c.command_row-row.ensures.command ∙ c.in-Ok-row.is in
    let still : needs_read hand ≡ false = rw same.0 whole in
    let some = behind_end hand (take c.in-Ok.count hand) (drop (c.in-Ok.count + 1) hand) c.in-Ok-row.command c.in-Ok.ensures.line.1 row (sym c.is_end.ensures ∙ c.if-is_end.true) still in
    c.finish.ensures.still (rw c.pass.ensures some) ∙ same.1
