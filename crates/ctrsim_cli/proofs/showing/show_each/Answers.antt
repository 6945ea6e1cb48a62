use Rattle.std.proofs.Common.{arith, subst, Ok, Option, ◌≡◌}
use Rattle.perf_sample.specs.declared.sample.Sample.{Sample}
use Rattle.perf_sample.specs.Sample.{IsSample}
use Rattle.perf_sample.specs.Reader.{after, IsNextAnswer}
use Rattle.perf_sample.specs.Reading.{sample_format}
use Rattle.perf_sample.specs.Spelling.{spelling}
use Rattle.std.specs.Prelude.{IfSome}
use Rattle.ctrsim_cli.specs.SampleText.{shown_sample}
use Rattle.ctrsim_cli.proofs.Shows.{begins, goes_on}
use Rattle.ctrsim_cli.proofs.showing.show_each.Goals as goal

pub loop-next-init : goal.loop-next-init
loop-next-init g c = record {
  so = begins g.K.Sink.gained c.args.layout (g.S.Source.left c.args.source.now) c.args.sink.now c.new-reader.result (g.met.K.Sink.gained_nothing c.args.sink.now) c.new-reader.ensures;
  source_later = omega arith;
  sink_later = omega arith;
}

pub loop-next-preserved : goal.loop-next-preserved
loop-next-preserved g c =
    let so = c.loop-next.invariant.so in
    let r = c.loop-next.reader in
    let mid = g.S.Source.left c.loop-next.source in
    let left = g.S.Source.left c.next.new.source in
    record {
      so = goes_on g.K.Sink.gained g.met.K.Sink.gained_then c.args.layout (g.S.Source.left c.args.source.now) mid left c.args.sink.now c.loop-next.sink c.write_text.new.sink
          r c.next.new.self c.in-Some.sample so
          (subst (λ (o : Option Sample). c.next.new.self ≡ after (spelling r.layout) r (Ok o)) c.in-Some.is (c.in-Ok.ensures.reads so.free).state)
          (subst (λ (o : Option Sample). IsNextAnswer (sample_format r.layout) r.given mid left (Ok o)) c.in-Some.is (c.in-Ok.ensures.reads so.free).answer)
          (subst (λ (o : Option Sample). IfSome o IsSample) c.in-Some.is c.in-Ok.ensures.range)
          (subst (λ n. g.K.Sink.gained c.loop-next.sink (shown_sample c.args.layout n c.in-Some.sample) c.write_text.new.sink) c.offset.ensures c.in-Ok-write_text.ensures.whole);
      source_later = omega (arith, c.in-Ok.ensures.cause, c.loop-next.invariant.source_later);
      sink_later = omega (arith, c.write_text.ensures.later, c.loop-next.invariant.sink_later);
    }
