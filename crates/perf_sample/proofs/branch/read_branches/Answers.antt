use Rattle.std.proofs.lemmas.Result.{err_from_is_err_and}
use Rattle.perf_sample.proofs.BranchLaws.{branches_stop}
use Rattle.perf_sample.proofs.branch.read_branches.Goals as goal

pub returns-in_err-branch-clause-takes : goal.returns-in_err-branch-clause-takes
returns-in_err-branch-clause-takes g c =
    let p = err_from_is_err_and c.from_residual.result c.from_residual.ensures.1 in
    let done = c.loop-number.invariant in
    rw (p.1, p.2)
    (branches_stop (g.S.Source.left c.args.source.now) (g.S.Source.left c.loop-number.source) (g.S.Source.left c.read_branch.new.source) c.args.nr c.loop-number.number c.loop-number.branches
    c.in_err-branch.field-0.0 c.loop-number-test.true done.count done.fit done.took c.in_err-branch.ensures.takes)
