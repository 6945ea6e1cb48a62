use Rattle.std.proofs.Common.{◌∙◌, arith}
use Rattle.replay_engine.proofs.IrqLaws.{early_counted, not_early}
use Rattle.replay_engine.proofs.irqs.Irqs.place.Goals as goal

pub loop-at-preserved : goal.loop-at-preserved
loop-at-preserved c = record {
  counted = c.loop-at.invariant.counted
      ∙ early_counted c.args.step c.loop-at.at c.args.self.now c.loop-at-test.ensures.yes;
}

pub returns : goal.returns
returns c =
    omega (
      arith,
      c.loop-at.invariant.counted,
      not_early c.args.step c.loop-at.at c.args.self.now
          c.start-at.ensures.order c.loop-at-test.ensures.no,
    )
