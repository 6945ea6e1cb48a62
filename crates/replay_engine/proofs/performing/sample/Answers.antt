use Rattle.std.proofs.Common.{◌≡◌, refl, ℕ, ◌<◌, List, length, sym, ap, arith, subst}
use Rattle.std.specs.Prelude.{slice_get, Some}
use Rattle.ctr_port.specs.Sink.{GainsPart}
use Rattle.replay_engine.specs.declared.sampling.SampleContext.{SampleContext}
use Rattle.replay_engine.specs.View.{Plan}
use Rattle.replay_engine.proofs.Items.{got_item}
use Rattle.replay_engine.proofs.Lifts.{within_harts}
use Rattle.replay_engine.proofs.Performs.{taken_all, same_subject}
use Rattle.replay_engine.proofs.performing.sample.Goals as goal
use Rattle.replay_engine.specs.Parts.{SampleAmong, SampleCutAmong}

pub sample_on_hart-requires-clause-hart : goal.sample_on_hart-requires-clause-hart
sample_on_hart-requires-clause-hart g c =
    omega (
      arith,
      within_harts c.args.tasks.now c.args.harts.now c.args.task c.in-Some.h
          c.requires.ready.kept c.in-Some.ensures,
    )

pub returns-in-Ok-clause-outcome : goal.returns-in-Ok-clause-outcome
returns-in-Ok-clause-outcome g c =
    let plan = c.args.plan.now in
    let o = c.index.result.now in
    let t = c.args.task in
    let h = c.in-Some.h in
    let few : t < length plan.tasks =
    omega (arith, c.if-task-count.false, c.count.ensures.count, c.requires.ready.size) in
    let ordered : slice_get plan.tasks t ≡ Some o =
    got_item plan.tasks c.plan.inside.tasks.items t o
    (ap (λ (p : Plan). p.tasks) c.plan.view_is) c.index.ensures few in
    let r = subst
    (λ (s : SampleContext). SampleAmong g.K.Sink.gained c.args.sink.now c.sample_on_hart.new.sink
    c.args.tasks.now c.args.harts.now c.sample_on_hart.new.harts s)
    (sym (same_subject plan h t c.plan.inside.layout o
    (ap (λ (p : Plan). p.layout) c.plan.view_is))) c.in-Ok.ensures.whole in
    let taken = taken_all plan o c.args.tasks.now c.args.harts.now c.sample_on_hart.new.harts t h
    r.x r.y _ c.requires.ready.kept few c.in-Some.ensures ordered r.task r.hart r.harts refl in
    record {
      allowed = taken.allowed;
      kept = taken.kept;
      others = taken.others;
      done = record {
        view = taken.view;
        written =
            subst (λ (b : List ℕ). g.K.Sink.gained c.args.sink.now b c.sample_on_hart.new.sink)
            taken.bytes r.written;
      };
    }

pub returns-in-Err-clause-outcome : goal.returns-in-Err-clause-outcome
returns-in-Err-clause-outcome g c =
    let plan = c.args.plan.now in
    let o = c.index.result.now in
    let t = c.args.task in
    let h = c.in-Some.h in
    let few : t < length plan.tasks =
    omega (arith, c.if-task-count.false, c.count.ensures.count, c.requires.ready.size) in
    let ordered : slice_get plan.tasks t ≡ Some o =
    got_item plan.tasks c.plan.inside.tasks.items t o
    (ap (λ (p : Plan). p.tasks) c.plan.view_is) c.index.ensures few in
    let r = subst
    (λ (s : SampleContext). SampleCutAmong g.K.Sink.gained c.args.sink.now c.sample_on_hart.new.sink
    c.args.tasks.now c.args.harts.now c.sample_on_hart.new.harts s)
    (sym (same_subject plan h t c.plan.inside.layout o
    (ap (λ (p : Plan). p.layout) c.plan.view_is))) c.in-Err.ensures.part in
    let taken = taken_all plan o c.args.tasks.now c.args.harts.now c.sample_on_hart.new.harts t h
    r.x r.y _ c.requires.ready.kept few c.in-Some.ensures ordered r.task r.hart r.harts refl in
    record {
      allowed = taken.allowed;
      kept = taken.kept;
      others = taken.others;
      broke = record {
        view = taken.view;
        written =
            subst (λ (b : List ℕ). GainsPart g.K.Sink.gained c.args.sink.now
            c.sample_on_hart.new.sink
            b) taken.bytes r.written;
      };
    }
