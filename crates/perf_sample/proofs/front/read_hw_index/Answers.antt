use Rattle.std.proofs.Common.{◌∙◌, sym}
use Rattle.std.proofs.lemmas.Result.{err_from_is_err_and}
use Rattle.ctr_port.proofs.PieceLaws.{taken_nothing}
use Rattle.perf_sample.proofs.RowLaws.{index_taken, index_left_out, index_stops}
use Rattle.perf_sample.proofs.front.read_hw_index.Goals as goal

pub returns-in_err-read_row-clause-takes : goal.returns-in_err-read_row-clause-takes
returns-in_err-read_row-clause-takes g c =
    let p = err_from_is_err_and c.from_residual.result c.from_residual.ensures.1 in
    rw (p.1, p.2)
    (index_stops (g.S.Source.left c.args.source.now) (g.S.Source.left c.read_row.new.source) c.args.layout c.in_err-read_row.field-0.0 (sym c.has.ensures ∙ c.if-has.true)
    c.in_err-read_row.ensures.takes)

pub returns-in_ok-read_row-clause-takes : goal.returns-in_ok-read_row-clause-takes
returns-in_ok-read_row-clause-takes g c =
    index_taken (g.S.Source.left c.args.source.now) (g.S.Source.left c.read_row.new.source) c.args.layout c.args.sample.now c.read_row.new.sample (sym c.has.ensures ∙ c.if-has.true)
    c.requires c.in_ok-read_row.ensures.takes

pub returns-else-has-clause-takes : goal.returns-else-has-clause-takes
returns-else-has-clause-takes g c =
    let left = g.S.Source.left c.args.source.now in
    index_left_out left c.args.layout c.args.sample.now (sym c.has.ensures ∙ c.if-has.false) c.requires (taken_nothing left)
