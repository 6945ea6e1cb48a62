use Rattle.ctr_bits.specs.MaskBits.{put_stays_within}
use Rattle.guest_modes.proofs.masked.Masked.put.Goals as goal

pub invariant_of-result : goal.invariant_of-result
invariant_of-result g c =
    rw c.put.ensures (put_stays_within g.row.LO g.row.LEN g.row.MASK c.self.inside.word c.args.value c.requires.fits c.requires.kept c.self.invariant)
