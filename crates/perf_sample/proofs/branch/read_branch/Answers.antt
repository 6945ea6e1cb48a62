use Rattle.std.proofs.Common.{arith, rules}
use Rattle.std.proofs.lemmas.Result.{err_from_is_err_and}
use Rattle.perf_sample.proofs.BranchLaws.{from_stops, to_stops, flags_stop, flags_wrong}
use Rattle.perf_sample.proofs.branch.read_branch.Goals as goal

pub returns-in_err-from-clause-takes : goal.returns-in_err-from-clause-takes
returns-in_err-from-clause-takes g c =
    let p = err_from_is_err_and c.from_residual.result c.from_residual.ensures.1 in
    rw (p.1, p.2) (from_stops (g.S.Source.left c.args.source.now) (g.S.Source.left c.read_place_number.new.source) c.args.number c.in_err-from.field-0.0 c.in_err-from.ensures.takes)

pub returns-in_err-to-clause-takes : goal.returns-in_err-to-clause-takes
returns-in_err-to-clause-takes g c =
    let p = err_from_is_err_and c.from_residual-in_err-to.result c.from_residual-in_err-to.ensures.1 in
    rw (p.1, p.2)
    (to_stops (g.S.Source.left c.args.source.now) (g.S.Source.left c.read_place_number.new.source) (g.S.Source.left c.read_place_number-2.new.source) c.args.number c.in_ok-from.from c.in_err-to.field-0.0
    c.in_ok-from.ensures.takes c.in_err-to.ensures.takes)

pub returns-in_err-flags-clause-takes : goal.returns-in_err-flags-clause-takes
returns-in_err-flags-clause-takes g c =
    let p = err_from_is_err_and c.from_residual-in_err-flags.result c.from_residual-in_err-flags.ensures.1 in
    rw (p.1, p.2)
    (flags_stop (g.S.Source.left c.args.source.now) (g.S.Source.left c.read_place_number.new.source) (g.S.Source.left c.read_place_number-2.new.source) (g.S.Source.left c.read_place_number-3.new.source)
    c.args.number c.in_ok-from.from c.in_ok-to.to c.in_err-flags.field-0.0 c.in_ok-from.ensures.takes c.in_ok-to.ensures.takes c.in_err-flags.ensures.takes)

pub returns-then-flags-ge-FIRST_RESERVED-clause-takes : goal.returns-then-flags-ge-FIRST_RESERVED-clause-takes
returns-then-flags-ge-FIRST_RESERVED-clause-takes g c =
    flags_wrong (g.S.Source.left c.args.source.now) (g.S.Source.left c.read_place_number.new.source) (g.S.Source.left c.read_place_number-2.new.source) (g.S.Source.left c.read_place_number-3.new.source)
    c.args.number c.in_ok-from.from c.in_ok-to.to c.in_ok-flags.flags c.in_ok-from.ensures.takes c.in_ok-to.ensures.takes c.in_ok-flags.ensures.takes (search rules) (omega (arith, c.if-flags-ge-FIRST_RESERVED.true))
