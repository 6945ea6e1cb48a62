use Rattle.ctr_bits.specs.SextLaws.{extended_is_number, extended_fits}
use Rattle.ctr_bits.proofs.laws.sext_laws.Goals as goal

pub returns-clause-extended_is_number : goal.returns-clause-extended_is_number
returns-clause-extended_is_number c = extended_is_number

pub returns-clause-extended_fits : goal.returns-clause-extended_fits
returns-clause-extended_fits c = extended_fits
