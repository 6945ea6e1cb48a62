use Rattle.xfer_class.proofs.MissedLemmas.{backward_is_negative}
use Rattle.xfer_class.proofs.prediction.prediction_laws.Goals as goal

pub returns : goal.returns
returns c = record { backward_is_negative = backward_is_negative }
