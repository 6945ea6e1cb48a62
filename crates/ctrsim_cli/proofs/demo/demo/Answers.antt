use Rattle.std.proofs.Common.{◌∙◌, ap, subst, List, ℕ}
use Rattle.ctr_port.specs.Sink.{GainsPart}
use Rattle.ctrsim_cli.specs.OnHarts.{line_of}
use Rattle.ctrsim_cli.proofs.DemoLaws.{turns_are}
use Rattle.ctrsim_cli.proofs.SummaryLaws.{summed}
use Rattle.ctrsim_cli.proofs.demo.demo.Goals as goal

pub returns-in-Ok-write_whole-clause-ends : goal.returns-in-Ok-write_whole-clause-ends
returns-in-Ok-write_whole-clause-ends g c = λ told.
    let are = turns_are g.H.HartSet.follows g.H.HartSet.performed g.H.HartSet.tells g.H.HartSet.held c.laws.ensures.goes_on c.laws.ensures.lone c.args.turns c.in-Ok.engine c.perform_turns-counter.new.engine c.args.harts.now c.perform_turns-counter.new.harts
    c.perform_turns-counter.result (c.in-Ok.ensures c.args.harts.now c.requires.fresh) told c.perform_turns-counter.ensures.made in
    let same = summed c.engine_laws.ensures.steps c.fact_laws.ensures.steps c.fact_laws.ensures.run c.engine_laws.ensures.samples c.engine_laws.ensures.scheduled c.args.turns c.perform_turns-counter.result c.requires.few are.0 in
    (subst (λ (bytes : List ℕ). g.K.Sink.gained c.args.sink.now bytes c.write_whole.new.sink) (c.as_slice.ensures.value ∙ c.summary.ensures ∙ same) c.in-Ok-write_whole.ensures.whole, are.1)

pub returns-in-Ok-write_whole-clause-on_harts : goal.returns-in-Ok-write_whole-clause-on_harts
returns-in-Ok-write_whole-clause-on_harts g c =
    let made = c.perform_turns-counter.ensures.made in
    record {
      first = c.in-Ok.engine;
      last = c.perform_turns-counter.new.engine;
      bytes = made.bytes;
      chain = made.chain;
      written = subst (λ (bytes : List ℕ). g.K.Sink.gained c.args.sink.now bytes c.write_whole.new.sink) (c.as_slice.ensures.value ∙ c.summary.ensures ∙ ap line_of made.counted) c.in-Ok-write_whole.ensures.whole;
    }

pub returns-clause-ends : goal.returns-clause-ends
returns-clause-ends g c = λ told.
    let are = turns_are g.H.HartSet.follows g.H.HartSet.performed g.H.HartSet.tells g.H.HartSet.held c.laws.ensures.goes_on c.laws.ensures.lone c.args.turns c.in-Ok.engine c.perform_turns-counter.new.engine c.args.harts.now c.perform_turns-counter.new.harts
    c.perform_turns-counter.result (c.in-Ok.ensures c.args.harts.now c.requires.fresh) told c.perform_turns-counter.ensures.made in
    let same = summed c.engine_laws.ensures.steps c.fact_laws.ensures.steps c.fact_laws.ensures.run c.engine_laws.ensures.samples c.engine_laws.ensures.scheduled c.args.turns c.perform_turns-counter.result c.requires.few are.0 in
    (subst (λ (bytes : List ℕ). GainsPart g.K.Sink.gained c.args.sink.now c.write_whole.new.sink bytes) (c.as_slice.ensures.value ∙ c.summary.ensures ∙ same) c.in-Err.ensures.part, are.1)

pub returns-clause-on_harts : goal.returns-clause-on_harts
returns-clause-on_harts g c =
    let made = c.perform_turns-counter.ensures.made in
    record {
      first = c.in-Ok.engine;
      last = c.perform_turns-counter.new.engine;
      bytes = made.bytes;
      chain = made.chain;
      written = subst (λ (bytes : List ℕ). GainsPart g.K.Sink.gained c.args.sink.now c.write_whole.new.sink bytes) (c.as_slice.ensures.value ∙ c.summary.ensures ∙ ap line_of made.counted) c.in-Err.ensures.part;
    }
