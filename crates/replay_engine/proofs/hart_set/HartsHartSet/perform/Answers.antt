use Rattle.replay_engine.proofs.HartSetLaws.{outcome_bytes}
use Rattle.replay_engine.proofs.hart_set.HartsHartSet.perform.Goals as goal

pub returns-clause-read : goal.returns-clause-read
returns-clause-read g c =
    let e = c.args.engine.now in
    let r = outcome_bytes g.K.Sink.gained g.met.K.Sink.gained_nothing c.args.sink.now
    c.perform.new.sink e.plan e.tasks c.perform.new.self.tasks c.args.harts.now c.perform.new.harts
    c.args.command c.perform.result c.perform.ensures.outcome in (
      r.0,
      record {
        is = c.requires.command;
        plan = c.perform.ensures.plan;
        whole = c.perform.ensures.broken;
        outcome = r.1;
      },
      r.2,
    )
