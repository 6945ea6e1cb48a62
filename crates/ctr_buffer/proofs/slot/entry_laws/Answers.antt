use Rattle.ctr_buffer.proofs.EntryLemmas.{reads_back, keeps_all_but_v}
use Rattle.ctr_buffer.proofs.slot.entry_laws.Goals as goal

pub returns-clause-reads_back : goal.returns-clause-reads_back
returns-clause-reads_back c = reads_back

pub returns-clause-unlinked : goal.returns-clause-unlinked
returns-clause-unlinked c = keeps_all_but_v
