use Rattle.rv_alu.proofs.ProductLemmas.{signed_halves_join, mixed_halves_join}
use Rattle.rv_alu.proofs.laws.product_laws.Goals as goal

pub returns-clause-signed_halves_join : goal.returns-clause-signed_halves_join
returns-clause-signed_halves_join c = signed_halves_join

pub returns-clause-mixed_halves_join : goal.returns-clause-mixed_halves_join
returns-clause-mixed_halves_join c = mixed_halves_join
