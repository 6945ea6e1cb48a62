use Rattle.std.proofs.Common.{rules, sym, ap, ◌∙◌, ◌+◌, ◌*◌}
use Rattle.std.proofs.lemmas.Result.{err_from_is_err_and}
use Rattle.perf_sample.proofs.BranchLaws.{nr_cut, count_wrong, nr_wrong}
use Rattle.perf_sample.proofs.branch.read_nr.Goals as goal

pub returns-in_err-nr-clause-takes : goal.returns-in_err-nr-clause-takes
returns-in_err-nr-clause-takes g c =
    let p = err_from_is_err_and c.from_residual.result c.from_residual.ensures.1 in
    rw (p.1, p.2) (nr_cut c.args.layout c.args.size (g.S.Source.left c.args.source.now) (g.S.Source.left c.read_place_number.new.source) c.in_err-nr.field-0.0 c.in_err-nr.ensures.takes)

pub returns-then-nr-clause-takes : goal.returns-then-nr-clause-takes
returns-then-nr-clause-takes g c =
    count_wrong c.args.layout c.args.size c.in_ok-nr.nr (g.S.Source.left c.args.source.now) (g.S.Source.left c.read_place_number.new.source) (search rules) c.if-nr.true c.in_ok-nr.ensures.takes

pub returns-then-size-fixed_len-clause-takes : goal.returns-then-size-fixed_len-clause-takes
returns-then-size-fixed_len-clause-takes g c =
    nr_wrong c.args.layout c.args.size c.in_ok-nr.nr (g.S.Source.left c.args.source.now) (g.S.Source.left c.read_place_number.new.source) (search rules) c.if-nr.false
    (λ e. c.if-size-fixed_len.true (e ∙ ap (λ len. len + 24 * c.in_ok-nr.nr) (sym c.fixed_len.ensures.len))) c.in_ok-nr.ensures.takes
