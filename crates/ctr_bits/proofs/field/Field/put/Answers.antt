use Rattle.std.proofs.Common.{arith}
use Rattle.ctr_bits.proofs.Words.{put_gives}
use Rattle.ctr_bits.proofs.field.Field.put.Goals as goal

pub returns : goal.returns
returns g c = put_gives c.args.word c.args.value g.row.LO g.row.LEN c.requires.in_word (omega arith) c.requires.fits
