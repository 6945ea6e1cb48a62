use Rattle.std.proofs.Common.{arith}
use Rattle.ctr_bits.proofs.Words.{get_is, get_below}
use Rattle.ctr_bits.proofs.field.Field.get.Goals as goal

pub returns-clause-value : goal.returns-clause-value
returns-clause-value g c = get_is c.args.word g.row.LO g.row.LEN (omega (arith, c.requires.in_word))

pub returns-clause-below : goal.returns-clause-below
returns-clause-below g c = get_below c.args.word g.row.LO g.row.LEN (omega (arith, c.requires.in_word))
