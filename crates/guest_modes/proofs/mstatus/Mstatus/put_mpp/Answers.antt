use Rattle.guest_modes.specs.WordLemmas.{status_with_mpp}
use Rattle.guest_modes.proofs.mstatus.Mstatus.put_mpp.Goals as goal

pub invariant_of-result : goal.invariant_of-result
invariant_of-result c = rw c.put.ensures (status_with_mpp c.self.inside.word c.args.value c.self.invariant.kept c.requires.fits c.requires.known)
