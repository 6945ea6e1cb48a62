use Rattle.std.proofs.Common.{ap, arith}
use Rattle.rv_hart.specs.Hart.{HartState}
use Rattle.engine_tests.proofs.PlayedLemmas.{changed_hart}
use Rattle.engine_tests.proofs.engine.put_core_of.Goals as goal

pub returns : goal.returns
returns c =
    changed_hart c.args.performed c.args.tasks.now.tasks c.args.harts.now 0 c.hart_mut.result.now c.swap_core.new.self c.hart_mut.ensures.hart
    (ap (λ (a : HartState). a.resident) c.swap_core.ensures.hart)
    (ap (λ (a : HartState). a.steps) c.swap_core.ensures.hart)
    (omega (arith, ap (λ (a : HartState). a.accesses) c.swap_core.ensures.hart))
    c.requires.played
