use Rattle.guest_modes.specs.WordLemmas.{or_within}
use Rattle.guest_modes.proofs.masked.Masked.set.Goals as goal

pub invariant_of-result : goal.invariant_of-result
invariant_of-result g c = or_within g.row.MASK c.self.inside.word c.args.bits c.self.invariant c.requires
