use Rattle.perf_sample.specs.Format.{answer_of}
use Rattle.perf_sample.specs.Reading.{sample_format}
use Rattle.perf_sample.specs.Spelling.{spelling}
use Rattle.perf_sample.proofs.ExactLaws.{reads_next}
use Rattle.perf_sample.proofs.OneSpelling.{samples_exact}
use Rattle.perf_sample.proofs.reader.SampleReader.read_into.Goals as goal

pub returns-clause-reads : goal.returns-clause-reads
returns-clause-reads g c = λ free.
    let reader = c.args.self.now in
    let result = answer_of c.answer.result c.answer.new.sample in
    reads_next (sample_format reader.layout) (samples_exact reader.layout) (spelling reader.layout) reader c.answer.new.self (g.S.Source.left c.args.source.now)
    (g.S.Source.left c.answer.new.source) result c.answer.ensures.answer c.answer.ensures.state c.answer.ensures.range
