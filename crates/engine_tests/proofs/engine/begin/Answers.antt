use Rattle.engine_tests.proofs.PlayedLemmas.{played_first}
use Rattle.engine_tests.proofs.engine.begin.Goals as goal

pub invariant_of-result : goal.invariant_of-result
invariant_of-result g c = record {
  played =
      played_first c.in_ok-engine.engine.tasks c.in_ok-harts.harts c.in_ok-harts.ensures
      c.in_ok-engine.ensures.places c.in_ok-engine.ensures.counts;
}
