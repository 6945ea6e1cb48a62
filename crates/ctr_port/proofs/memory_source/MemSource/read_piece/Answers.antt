use Rattle.std.proofs.Common.{rules}
use Rattle.ctr_port.proofs.PieceLaws.{given_next}
use Rattle.ctr_port.proofs.memory_source.MemSource.read_piece.Goals as goal

pub returns-in-Some-clause-gives : goal.returns-in-Some-clause-gives
returns-in-Some-clause-gives c =
    (search rules, search rules, given_next c.args.self.now.bytes.items c.copy_from_slice.new.self _ c.args.self.now.at c.in-Some.count (search rules) (search rules))
