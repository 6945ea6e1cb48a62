use Rattle.guest_modes.proofs.StatusLemmas.{entry_bits, return_bits, return_goes_back}
use Rattle.guest_modes.proofs.TrapLemmas.{trap_writes, return_writes}
use Rattle.guest_modes.proofs.laws.status_laws.Goals as goal

pub returns-clause-entry_bits : goal.returns-clause-entry_bits
returns-clause-entry_bits c = entry_bits

pub returns-clause-return_bits : goal.returns-clause-return_bits
returns-clause-return_bits c = return_bits

pub returns-clause-return_goes_back : goal.returns-clause-return_goes_back
returns-clause-return_goes_back c = return_goes_back

pub returns-clause-trap_writes : goal.returns-clause-trap_writes
returns-clause-trap_writes c = trap_writes

pub returns-clause-return_writes : goal.returns-clause-return_writes
returns-clause-return_writes c = return_writes
