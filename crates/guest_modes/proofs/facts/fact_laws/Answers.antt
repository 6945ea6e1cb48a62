use Rattle.guest_modes.specs.FactLemmas.{written_keeps, read_fits, raised_keeps, cleared_keeps, entered_keeps, handler_place, left_keeps, return_place}
use Rattle.guest_modes.proofs.facts.fact_laws.Goals as goal

pub returns-clause-written_keeps : goal.returns-clause-written_keeps
returns-clause-written_keeps c = written_keeps

pub returns-clause-read_fits : goal.returns-clause-read_fits
returns-clause-read_fits c = read_fits

pub returns-clause-raised_keeps : goal.returns-clause-raised_keeps
returns-clause-raised_keeps c = raised_keeps

pub returns-clause-cleared_keeps : goal.returns-clause-cleared_keeps
returns-clause-cleared_keeps c = cleared_keeps

pub returns-clause-entered_keeps : goal.returns-clause-entered_keeps
returns-clause-entered_keeps c = entered_keeps

pub returns-clause-handler_place : goal.returns-clause-handler_place
returns-clause-handler_place c = handler_place

pub returns-clause-left_keeps : goal.returns-clause-left_keeps
returns-clause-left_keeps c = left_keeps

pub returns-clause-return_place : goal.returns-clause-return_place
returns-clause-return_place c = return_place
