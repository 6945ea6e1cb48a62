use Rattle.std.proofs.lemmas.Result.{err_from_is_err_and}
use Rattle.perf_sample.proofs.RowLaws.{row_cut, row_put}
use Rattle.perf_sample.proofs.front.read_row.Goals as goal

pub returns-in_err-bytes-clause-takes : goal.returns-in_err-bytes-clause-takes
returns-in_err-bytes-clause-takes g c =
    let p = err_from_is_err_and c.from_residual.result c.from_residual.ensures.1 in
    rw (p.1, p.2) (row_cut (g.S.Source.left c.args.source.now) (g.S.Source.left c.read_place.new.source) c.args.place c.in_err-bytes.field-0.0 c.in_err-bytes.ensures.takes)

pub returns-clause-takes : goal.returns-clause-takes
returns-clause-takes g c =
    row_put c.put_in.result (g.S.Source.left c.args.source.now) (g.S.Source.left c.read_place.new.source) c.args.place c.in_ok-bytes.bytes c.args.sample.now c.put_in.new.sample
    c.in_ok-bytes.ensures.takes c.put_in.ensures.puts
