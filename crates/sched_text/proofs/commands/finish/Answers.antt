use Rattle.sched_text.proofs.CommandLaws.{end_refused}
use Rattle.sched_text.proofs.commands.finish.Goals as goal

pub returns-then-bytes-gt0-clause-finishes : goal.returns-then-bytes-gt0-clause-finishes
returns-then-bytes-gt0-clause-finishes g c =
    end_refused c.args.window.now (g.S.Source.left c.args.source.now) c.args.line (rw c.bytes.ensures.bytes at c.if-bytes-gt0.true)
