use Rattle.rv_alu.specs.Sizes.{value_fits}
use Rattle.rv_alu.proofs.laws.size_laws.Goals as goal

pub returns : goal.returns
returns c = record { values_fit = value_fits }
