use Rattle.ctr_port.specs.InHand.{text_of}
use Rattle.sched_text.proofs.FollowLaws.{commands_end}
use Rattle.sched_text.proofs.outcomes.check_schedule.Goals as goal

pub returns-clause-outcome : goal.returns-clause-outcome
returns-clause-outcome g c =
    let r = c.in_ok-reader.reader in
    let open_ = c.in_ok-reader.ensures.opens in
    commands_end c.commands.result r.line open_.header c.commands.new.reader.hand (g.S.Source.left c.args.source.now) (text_of r.hand (g.S.Source.left c.read_to_commands.new.source))
    (g.S.Source.left c.commands.new.source) open_.opened c.commands.ensures.answer
