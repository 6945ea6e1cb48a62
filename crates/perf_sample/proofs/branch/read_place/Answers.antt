use Rattle.std.proofs.Common.{subst, ap, ◌∙◌, Err}
use Rattle.perf_sample.specs.Reading.{TakesField}
use Rattle.perf_sample.proofs.ReadingLaws.{cut_short}
use Rattle.perf_sample.proofs.branch.read_place.Goals as goal

pub returns-in-Failed-clause-takes : goal.returns-in-Failed-clause-takes
returns-in-Failed-clause-takes g c =
    let left = g.S.Source.left c.args.source.now in
    let left' = g.S.Source.left c.read_field.new.source in
    let took = subst (TakesField left left') (c.in-Err.is ∙ ap Err c.in-Failed.is) c.read_field.ensures.takes in
    cut_short left left' c.args.place took
