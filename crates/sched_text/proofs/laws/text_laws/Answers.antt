use Rattle.sched_text.proofs.BreakLaws.{break_once}
use Rattle.sched_text.proofs.WholeLaws.{whole_or_broken}
use Rattle.sched_text.proofs.OneLaws.{one_of_each}
use Rattle.sched_text.proofs.GrammarLaws.{grammatical}
use Rattle.sched_text.proofs.GrammarSteps.{is_read}
use Rattle.sched_text.proofs.laws.text_laws.Goals as goal

pub returns-clause-one_break : goal.returns-clause-one_break
returns-clause-one_break c = break_once

pub returns-clause-whole_or_broken : goal.returns-clause-whole_or_broken
returns-clause-whole_or_broken c = whole_or_broken

pub returns-clause-one_of_each : goal.returns-clause-one_of_each
returns-clause-one_of_each c = one_of_each

pub returns-clause-grammar : goal.returns-clause-grammar
returns-clause-grammar c = grammatical

pub returns-clause-grammar_is_read : goal.returns-clause-grammar_is_read
returns-clause-grammar_is_read c = is_read
