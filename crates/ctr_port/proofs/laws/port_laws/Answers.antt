use Rattle.std.proofs.Common.{arith}
use Rattle.ctr_port.specs.MemorySink.{held_of}
use Rattle.ctr_port.proofs.PieceLaws.{part_apart}
use Rattle.ctr_port.proofs.laws.port_laws.Goals as goal

pub returns-clause-part_is_not_whole : goal.returns-clause-part_is_not_whole
returns-clause-part_is_not_whole c = λ old new bytes part whole. part_apart (held_of old) (held_of new) bytes part.0 part.1 part.2 whole

pub returns-clause-stays_unrisen : goal.returns-clause-stays_unrisen
returns-clause-stays_unrisen c = λ count less rose. omega (arith, less, rose)
