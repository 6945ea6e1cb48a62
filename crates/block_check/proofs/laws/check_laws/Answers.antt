use Rattle.block_check.proofs.FaultLemmas.{one_fault, has_none}
use Rattle.block_check.proofs.RecordedLemmas.{transfers_fine, traps_fine}
use Rattle.block_check.proofs.StraightLemmas.{over_none, over_one, over_both, ends}
use Rattle.block_check.proofs.laws.check_laws.Goals as goal

pub returns-clause-one : goal.returns-clause-one
returns-clause-one c = one_fault

pub returns-clause-none : goal.returns-clause-none
returns-clause-none c = has_none

pub returns-clause-transfers : goal.returns-clause-transfers
returns-clause-transfers c = transfers_fine

pub returns-clause-traps : goal.returns-clause-traps
returns-clause-traps c = traps_fine

pub returns-clause-nowhere : goal.returns-clause-nowhere
returns-clause-nowhere c = over_none

pub returns-clause-over_one : goal.returns-clause-over_one
returns-clause-over_one c = over_one

pub returns-clause-over_both : goal.returns-clause-over_both
returns-clause-over_both c = over_both

pub returns-clause-ends : goal.returns-clause-ends
returns-clause-ends c = ends
