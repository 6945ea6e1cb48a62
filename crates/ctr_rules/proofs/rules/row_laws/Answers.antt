use Rattle.ctr_rules.proofs.PickedRow.{one_row}
use Rattle.ctr_rules.proofs.AddressLemmas.{addresses_by_mode}
use Rattle.ctr_rules.proofs.rules.row_laws.Goals as goal

pub returns-clause-one_row : goal.returns-clause-one_row
returns-clause-one_row c = one_row

pub returns-clause-addresses : goal.returns-clause-addresses
returns-clause-addresses c = addresses_by_mode
