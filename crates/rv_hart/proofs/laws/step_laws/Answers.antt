use Rattle.rv_hart.proofs.StepLemmas.{exceptions_write_nothing, memory_keeps_its_size, no_step_changes_x0, at_most_one_event, accesses_write_by_number}
use Rattle.rv_hart.proofs.DestinationLemmas.{steps_go_to_their_destinations}
use Rattle.rv_hart.proofs.EndingLemmas.{traps_and_returns_write_nothing, endings_by_mode, endings_by_address, sctrclr_clears_entries}
use Rattle.rv_hart.proofs.FrozenLemmas.{freezes_set_frozen, frozen_changes}
use Rattle.rv_hart.proofs.RecordLemmas.{transfers_record_themselves}
use Rattle.rv_hart.proofs.TrapRecordLemmas.{traps_record_themselves}
use Rattle.rv_hart.proofs.laws.step_laws.Goals as goal

pub returns-clause-exceptions : goal.returns-clause-exceptions
returns-clause-exceptions c = exceptions_write_nothing

pub returns-clause-size : goal.returns-clause-size
returns-clause-size c = memory_keeps_its_size

pub returns-clause-zero : goal.returns-clause-zero
returns-clause-zero c = no_step_changes_x0

pub returns-clause-events : goal.returns-clause-events
returns-clause-events c = at_most_one_event

pub returns-clause-traps : goal.returns-clause-traps
returns-clause-traps c = traps_and_returns_write_nothing

pub returns-clause-endings : goal.returns-clause-endings
returns-clause-endings c = endings_by_mode

pub returns-clause-addresses : goal.returns-clause-addresses
returns-clause-addresses c = endings_by_address

pub returns-clause-accesses : goal.returns-clause-accesses
returns-clause-accesses c = accesses_write_by_number

pub returns-clause-clear : goal.returns-clause-clear
returns-clause-clear c = sctrclr_clears_entries

pub returns-clause-records : goal.returns-clause-records
returns-clause-records c = transfers_record_themselves

pub returns-clause-trap_records : goal.returns-clause-trap_records
returns-clause-trap_records c = traps_record_themselves

pub returns-clause-destinations : goal.returns-clause-destinations
returns-clause-destinations c = steps_go_to_their_destinations

pub returns-clause-frozen : goal.returns-clause-frozen
returns-clause-frozen c = frozen_changes c.register_laws.ensures.frozen_changes_by_status

pub returns-clause-freezes : goal.returns-clause-freezes
returns-clause-freezes c = freezes_set_frozen
