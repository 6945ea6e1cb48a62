use Rattle.guest_modes.specs.WordLemmas.{status_with_field}
use Rattle.guest_modes.proofs.mstatus.Mstatus.put.Goals as goal

pub invariant_of-result : goal.invariant_of-result
invariant_of-result g c =
    rw c.put.ensures (status_with_field g.row.LO g.row.LEN c.self.inside.word c.args.value c.self.invariant c.requires.fits c.requires.kept c.requires.apart)
