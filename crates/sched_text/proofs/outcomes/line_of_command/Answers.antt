use Rattle.std.proofs.lemmas.Result.{err_from_is_err_and}
use Rattle.std.proofs.Common.{sym, subst, Err, Ok, ℕ, Bool, true, false}
use Rattle.ctr_port.specs.InHand.{text_of}
use Rattle.sched_text.specs.Outcomes.{SomeCommandsAnswer, HasReadCommands}
use Rattle.sched_text.proofs.FollowLaws.{commands_end, halts_so, ends_within}
use Rattle.sched_text.proofs.outcomes.line_of_command.Goals as goal

pub returns-in_err-ended-clause-outcome : goal.returns-in_err-ended-clause-outcome
returns-in_err-ended-clause-outcome g c =
    let r = c.in_ok-reader.reader in
    let open_ = c.in_ok-reader.ensures.opens in
    let p = err_from_is_err_and c.from_residual-in_err-ended.result c.from_residual-in_err-ended.ensures.1 in
    rw (p.1, p.2) (commands_end (Err c.in_err-ended.field-0.0) r.line open_.header c.some_commands.new.reader.hand (g.S.Source.left c.args.source.now)
    (text_of r.hand (g.S.Source.left c.read_to_commands.new.source)) (g.S.Source.left c.some_commands.new.source) open_.opened c.in_err-ended.ensures.answer)

pub returns-then-ended-clause-outcome : goal.returns-then-ended-clause-outcome
returns-then-ended-clause-outcome g c =
    let r = c.in_ok-reader.reader in
    let open_ = c.in_ok-reader.ensures.opens in
    let mid = text_of r.hand (g.S.Source.left c.read_to_commands.new.source) in
    let left' = g.S.Source.left c.some_commands.new.source in
    let hand = c.some_commands.new.reader.hand in
    ends_within r.line c.args.most c.some_commands.new.reader.line open_.header hand (g.S.Source.left c.args.source.now) mid left' open_.opened
    (subst (λ (b : Bool). SomeCommandsAnswer r.line c.args.most mid (text_of hand left') hand c.some_commands.new.reader.line (Ok b)) c.if-ended.true c.in_ok-ended.ensures.answer)

pub returns-clause-outcome : goal.returns-clause-outcome
returns-clause-outcome g c =
    let r = c.in_ok-reader.reader in
    let open_ = c.in_ok-reader.ensures.opens in
    let left = g.S.Source.left c.args.source.now in
    let mid = text_of r.hand (g.S.Source.left c.read_to_commands.new.source) in
    let left' = g.S.Source.left c.some_commands.new.source in
    let hand = c.some_commands.new.reader.hand in
    subst (λ (k : ℕ). HasReadCommands left left' k c.args.most) (sym c.line.ensures)
    (halts_so r.line c.args.most c.some_commands.new.reader.line open_.header hand left mid left' open_.opened
    (subst (λ (b : Bool). SomeCommandsAnswer r.line c.args.most mid (text_of hand left') hand c.some_commands.new.reader.line (Ok b)) c.if-ended.false c.in_ok-ended.ensures.answer))
