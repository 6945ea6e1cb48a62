use Rattle.std.proofs.Common.{sym, subst}
use Rattle.perf_sample.specs.Format.{answer_of}
use Rattle.perf_sample.specs.Reading.{sample_format}
use Rattle.perf_sample.specs.Reader.{IsNextAnswer}
use Rattle.perf_sample.proofs.reader.read_next.Goals as goal

pub returns-then-given-eq-MAX_SAMPLES-clause-answer : goal.returns-then-given-eq-MAX_SAMPLES-clause-answer
returns-then-given-eq-MAX_SAMPLES-clause-answer g c =
    subst (λ given. IsNextAnswer (sample_format c.args.layout) given (g.S.Source.left c.args.source.now) (g.S.Source.left c.expect_end.new.source) (answer_of c.expect_end.result c.args.sample.now)) (sym c.if-given-eq-MAX_SAMPLES.true)
    (c.expect_end.ensures.answer c.args.layout c.args.sample.now)
