use Rattle.guest_modes.proofs.NumberLemmas.{moved_is_there}
use Rattle.guest_modes.proofs.gating.gate.Goals as goal

pub returns-then-eq-clause-there : goal.returns-then-eq-clause-there
returns-then-eq-clause-there c = c.is_possible.ensures.there c.if-not-is_possible.false

pub returns-clause-there : goal.returns-clause-there
returns-clause-there c =
    moved_is_there c.args.csr (c.is_possible.ensures.there c.if-not-is_possible.false)
    c.if-level-eq2.false c.if-level-eq3.false c.if-csr-eq351.false c.if-csr-eq335.false
