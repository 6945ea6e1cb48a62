use Rattle.ctr_buffer.proofs.Kept.{one_is_visible}
use Rattle.ctr_buffer.proofs.VisibleLemmas.{held_is_visible, taken_have_transfers, valid_are_visible}
use Rattle.ctr_buffer.proofs.history.visible_laws.Goals as goal

pub returns-clause-one : goal.returns-clause-one
returns-clause-one c = one_is_visible

pub returns-clause-held : goal.returns-clause-held
returns-clause-held c = held_is_visible

pub returns-clause-valid : goal.returns-clause-valid
returns-clause-valid c = valid_are_visible

pub returns-clause-taken : goal.returns-clause-taken
returns-clause-taken c = taken_have_transfers
