use Rattle.rv_decode.proofs.TableLemmas.{found_some, found_none}
use Rattle.rv_decode.proofs.NumberLemmas.{found_fits, found_words_fit}
use Rattle.rv_decode.proofs.words.decode.Goals as goal

pub returns-clause-some : goal.returns-clause-some
returns-clause-some c = found_some c.args.word c.row_of.result c.row_of.ensures

pub returns-clause-none : goal.returns-clause-none
returns-clause-none c = found_none c.args.word c.row_of.result c.row_of.ensures

pub returns-clause-numbers : goal.returns-clause-numbers
returns-clause-numbers c = found_fits c.args.word c.row_of.result c.row_of.ensures

pub returns-clause-words : goal.returns-clause-words
returns-clause-words c = found_words_fit c.args.word c.row_of.result c.row_of.ensures
