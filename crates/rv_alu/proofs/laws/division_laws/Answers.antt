use Rattle.rv_alu.proofs.DivisionLemmas.{signed_division_joins, word_division_joins, signed_word_division_joins, division_by_zero, division_overflows}
use Rattle.rv_alu.proofs.laws.division_laws.Goals as goal

pub returns-clause-signed_division_joins : goal.returns-clause-signed_division_joins
returns-clause-signed_division_joins c = signed_division_joins

pub returns-clause-word_division_joins : goal.returns-clause-word_division_joins
returns-clause-word_division_joins c = word_division_joins

pub returns-clause-signed_word_division_joins : goal.returns-clause-signed_word_division_joins
returns-clause-signed_word_division_joins c = signed_word_division_joins

pub returns-clause-by_zero : goal.returns-clause-by_zero
returns-clause-by_zero c = division_by_zero

pub returns-clause-overflows : goal.returns-clause-overflows
returns-clause-overflows c = division_overflows
