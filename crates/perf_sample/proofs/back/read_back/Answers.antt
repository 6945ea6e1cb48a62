use Rattle.std.proofs.lemmas.Result.{err_from_is_err_and}
use Rattle.perf_sample.proofs.PartLaws.{nr_breaks, index_breaks, branches_break, back_taken}
use Rattle.perf_sample.proofs.back.read_back.Goals as goal

pub returns-in_err-nr-clause-takes : goal.returns-in_err-nr-clause-takes
returns-in_err-nr-clause-takes g c =
    let p = err_from_is_err_and c.from_residual.result c.from_residual.ensures.1 in
    rw (p.1, p.2) (nr_breaks c.args.layout c.args.size (g.S.Source.left c.args.source.now) (g.S.Source.left c.read_nr.new.source) c.in_err-nr.field-0.0 c.in_err-nr.ensures.takes)

pub returns-in_err-read_hw_index-clause-takes : goal.returns-in_err-read_hw_index-clause-takes
returns-in_err-read_hw_index-clause-takes g c =
    let many = c.in_ok-nr.ensures.takes in
    let p = err_from_is_err_and c.from_residual-in_err-read_hw_index.result c.from_residual-in_err-read_hw_index.ensures.1 in
    rw (p.1, p.2)
    (index_breaks c.args.layout c.args.size c.in_ok-nr.nr (g.S.Source.left c.args.source.now) (g.S.Source.left c.read_nr.new.source) (g.S.Source.left c.read_hw_index.new.source)
    c.in_err-read_hw_index.field-0.0 many.1 many.2 many.0 (c.in_err-read_hw_index.ensures.takes c.args.size))

pub returns-in_err-read_branches-clause-takes : goal.returns-in_err-read_branches-clause-takes
returns-in_err-read_branches-clause-takes g c =
    let many = c.in_ok-nr.ensures.takes in
    let p = err_from_is_err_and c.from_residual-in_err-read_branches.result c.from_residual-in_err-read_branches.ensures.1 in
    rw (p.1, p.2)
    (branches_break c.args.layout c.args.size c.in_ok-nr.nr c.read_hw_index.new.sample (g.S.Source.left c.args.source.now) (g.S.Source.left c.read_nr.new.source)
    (g.S.Source.left c.read_hw_index.new.source) (g.S.Source.left c.read_branches.new.source) c.in_err-read_branches.field-0.0 many.1 many.2 many.0 c.in_ok-read_hw_index.ensures.takes.0
    (c.in_err-read_branches.ensures.takes c.args.layout c.args.size))

pub returns-clause-takes : goal.returns-clause-takes
returns-clause-takes g c =
    let many = c.in_ok-nr.ensures.takes in
    let index = c.in_ok-read_hw_index.ensures.takes in
    let stack = c.in_ok-read_branches.ensures.takes in
    back_taken c.args.layout c.args.size c.in_ok-nr.nr c.args.sample.now c.read_hw_index.new.sample c.read_branches.new.branches (g.S.Source.left c.args.source.now) (g.S.Source.left c.read_nr.new.source)
    (g.S.Source.left c.read_hw_index.new.source) (g.S.Source.left c.read_branches.new.source) many.1 many.2 index.1 index.2 index.3 stack.2 stack.1 many.0 index.0 stack.0
