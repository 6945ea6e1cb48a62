use Rattle.std.proofs.Common.{subst, sym, ap, ◌∙◌, Err, rules}
use Rattle.std.specs.Io.KnownBytes.{Consumes}
use Rattle.perf_sample.specs.Reading.{TakesField}
use Rattle.perf_sample.proofs.HeaderLaws.{header_ended, header_failed, kind_apart}
use Rattle.perf_sample.proofs.header.read_header.Goals as goal

pub returns-in-Ended-clause-takes : goal.returns-in-Ended-clause-takes
returns-in-Ended-clause-takes g c =
    let left = g.S.Source.left c.args.source.now in
    let left' = g.S.Source.left c.read_field.new.source in
    header_ended c.in-Ended.count left left' c.if-count-eq0.false (subst (TakesField left left') (c.in-Err.is ∙ ap Err c.in-Ended.is) c.read_field.ensures.takes)

pub returns-in-Failed-clause-takes : goal.returns-in-Failed-clause-takes
returns-in-Failed-clause-takes g c =
    let left = g.S.Source.left c.args.source.now in
    let left' = g.S.Source.left c.read_field.new.source in
    header_failed left left' (subst (TakesField left left') (c.in-Err.is ∙ ap Err c.in-Failed.is) c.read_field.ensures.takes)

pub returns-then-kind-ne-PERF_RECORD_SAMPLE-clause-takes : goal.returns-then-kind-ne-PERF_RECORD_SAMPLE-clause-takes
returns-then-kind-ne-PERF_RECORD_SAMPLE-clause-takes g c =
    let left = g.S.Source.left c.args.source.now in
    let left' = g.S.Source.left c.read_field.new.source in
    let said = c.header-kind.result in
    kind_apart said.0 said.1 said.2 left left' (search rules) (search rules) c.if-kind-ne-PERF_RECORD_SAMPLE.true (subst (Consumes left left') (sym c.header-kind.ensures) c.in-Ok.ensures.takes)
