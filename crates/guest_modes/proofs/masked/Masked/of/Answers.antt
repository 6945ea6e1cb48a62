use Rattle.std.specs.Int.Bits.{and_self}
use Rattle.guest_modes.specs.WordLemmas.{under_part}
use Rattle.guest_modes.proofs.masked.Masked.of.Goals as goal

pub invariant_of-result : goal.invariant_of-result
invariant_of-result g c = under_part g.row.MASK g.row.MASK c.args.value (and_self g.row.MASK)
