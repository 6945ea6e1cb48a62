use Rattle.std.proofs.Common.{◌-◌, ◌*◌, ◌%◌, ◌^◌}
use Rattle.guest_modes.specs.WordLemmas.{part_within}
use Rattle.guest_modes.proofs.masked.Masked.clear.Goals as goal

pub invariant_of-result : goal.invariant_of-result
invariant_of-result g c = part_within g.row.MASK c.self.inside.word (2 ^ 64 - 1 - 1 * 2 ^ c.args.place % 2 ^ 64) c.self.invariant
