use Rattle.rv_decode.proofs.NumberLemmas.{decoded_words_fit}
use Rattle.rv_decode.proofs.laws.word_laws.Goals as goal

pub returns : goal.returns
returns c = record { words_fit = decoded_words_fit }
