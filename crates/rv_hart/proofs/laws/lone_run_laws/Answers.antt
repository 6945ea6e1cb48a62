use Rattle.rv_hart.proofs.Lones.{lone_follows, next_follows, same_next, same_events, lone_state, steps_join, run_goes_on}
use Rattle.rv_hart.proofs.TaskLemmas.{first_unit, causes_within}
use Rattle.rv_hart.proofs.UnreturnedLemmas.{records_in_runs, valid_in_runs}
use Rattle.rv_hart.proofs.laws.lone_run_laws.Goals as goal

pub returns-clause-first : goal.returns-clause-first
returns-clause-first c = first_unit

pub returns-clause-pending : goal.returns-clause-pending
returns-clause-pending c = causes_within

pub returns-clause-follows : goal.returns-clause-follows
returns-clause-follows c = lone_follows

pub returns-clause-next_follows : goal.returns-clause-next_follows
returns-clause-next_follows c = next_follows

pub returns-clause-agree : goal.returns-clause-agree
returns-clause-agree c = same_next

pub returns-clause-events : goal.returns-clause-events
returns-clause-events c = same_events

pub returns-clause-state : goal.returns-clause-state
returns-clause-state c = lone_state

pub returns-clause-join : goal.returns-clause-join
returns-clause-join c = steps_join

pub returns-clause-goes_on : goal.returns-clause-goes_on
returns-clause-goes_on c = run_goes_on

pub returns-clause-visible : goal.returns-clause-visible
returns-clause-visible c = valid_in_runs c.visible_laws.ensures.valid c.fact_laws.ensures.history

pub returns-clause-visible_records : goal.returns-clause-visible_records
returns-clause-visible_records c =
    records_in_runs c.visible_laws.ensures.held c.fact_laws.ensures.history
