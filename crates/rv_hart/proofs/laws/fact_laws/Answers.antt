use Rattle.rv_hart.proofs.FactLemmas.{next_keeps, steps_keep, lone_keeps, history_is, can_replay}
use Rattle.rv_hart.proofs.laws.fact_laws.Goals as goal

pub returns-clause-next : goal.returns-clause-next
returns-clause-next c = next_keeps c.word_laws.ensures.words_fit

pub returns-clause-steps : goal.returns-clause-steps
returns-clause-steps c = steps_keep c.word_laws.ensures.words_fit

pub returns-clause-run : goal.returns-clause-run
returns-clause-run c = lone_keeps c.word_laws.ensures.words_fit

pub returns-clause-history : goal.returns-clause-history
returns-clause-history c = history_is c.word_laws.ensures.words_fit

pub returns-clause-replays : goal.returns-clause-replays
returns-clause-replays c = can_replay c.word_laws.ensures.words_fit
