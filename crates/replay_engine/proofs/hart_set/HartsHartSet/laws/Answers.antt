use Rattle.replay_engine.proofs.HartSetLaws.{command_goes_on, harts_behind_are_lone}
use Rattle.replay_engine.proofs.hart_set.HartsHartSet.laws.Goals as goal

pub returns-clause-goes_on : goal.returns-clause-goes_on
returns-clause-goes_on c = λ h images cs e f a b x r bytes before done.
    command_goes_on h images cs e f a b x r bytes before done

pub returns-clause-lone : goal.returns-clause-lone
returns-clause-lone c = λ h images cs e a before told. harts_behind_are_lone h images cs e a before
