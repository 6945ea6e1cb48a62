use Rattle.ctr_bits.specs.MaskBits.{merged_stays_within}
use Rattle.guest_modes.proofs.masked.Masked.merge.Goals as goal

pub invariant_of-result : goal.invariant_of-result
invariant_of-result g c = merged_stays_within c.args.part g.row.MASK c.self.inside.word c.args.value c.requires c.self.invariant
