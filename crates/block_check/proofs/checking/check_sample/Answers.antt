use Rattle.std.proofs.Common.{◌≡◌, ◌↔◌, List, Err, subst}
use Rattle.perf_sample.specs.declared.sample.Branch.{Branch}
use Rattle.block_check.specs.Plausible.{IsFault}
use Rattle.block_check.proofs.checking.check_sample.Goals as goal

pub returns-clause-broken : goal.returns-clause-broken
returns-clause-broken c = λ f.
    subst (λ (branches : List Branch). (c.check_branches.result ≡ Err f) ↔ IsFault c.args.image.now branches f)
    c.items.ensures.items (c.check_branches.ensures.broken f)
