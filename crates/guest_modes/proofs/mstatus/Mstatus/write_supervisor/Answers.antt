use Rattle.guest_modes.specs.WordLemmas.{status_in_part}
use Rattle.guest_modes.proofs.mstatus.Mstatus.write_supervisor.Goals as goal

pub invariant_of-result : goal.invariant_of-result
invariant_of-result c = status_in_part c.self.inside.word c.args.value c.self.invariant
