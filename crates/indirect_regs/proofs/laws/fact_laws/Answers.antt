use Rattle.indirect_regs.specs.FactLemmas.{accessed_keeps, port_keeps}
use Rattle.indirect_regs.proofs.laws.fact_laws.Goals as goal

pub returns-clause-access : goal.returns-clause-access
returns-clause-access c = accessed_keeps

pub returns-clause-monitor : goal.returns-clause-monitor
returns-clause-monitor c = port_keeps
