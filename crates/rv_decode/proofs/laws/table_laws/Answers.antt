use Rattle.rv_decode.proofs.TableLemmas.{one_row, one_instr}
use Rattle.rv_decode.proofs.NumberLemmas.{rows_fit, row_words_fit}
use Rattle.rv_decode.proofs.laws.table_laws.Goals as goal

pub returns-clause-one_row : goal.returns-clause-one_row
returns-clause-one_row c = one_row

pub returns-clause-one_instr : goal.returns-clause-one_instr
returns-clause-one_instr c = one_instr

pub returns-clause-rows_fit : goal.returns-clause-rows_fit
returns-clause-rows_fit c = rows_fit

pub returns-clause-row_words_fit : goal.returns-clause-row_words_fit
returns-clause-row_words_fit c = row_words_fit
