use Rattle.std.proofs.Common.{sym, subst}
use Rattle.replay_engine.specs.Counts.{CountsWithin}
use Rattle.replay_engine.specs.Engine.{EngineState}
use Rattle.replay_engine.specs.Stands.{StandsFor}
use Rattle.replay_engine.specs.StandsAfter.{StandsAfter}
use Rattle.replay_engine.specs.View.{view_of}
use Rattle.replay_engine.proofs.AfterLaws.{counts_after, stands_after}
use Rattle.replay_engine.proofs.FactLaws.{facts_kept}
use Rattle.replay_engine.proofs.engine.Engine.perform.Goals as goal

pub invariant_of-self : goal.invariant_of-self
invariant_of-self g c =
    let e = c.self.inside in
    facts_kept g.K.Sink.gained c.args.sink.now c.attempt-result.new.sink e.plan e.tasks
    c.attempt-result.new.tasks c.args.harts.now
    c.attempt-result.new.harts c.args.command c.attempt-result.result e.broken _
    c.step_laws.ensures.size
    c.attempt-result.ensures.outcome c.facts.ensures c.self.invariant

pub returns-clause-stands : goal.returns-clause-stands
returns-clause-stands g c = λ first commands stands.
    let e = c.self.inside in
    let before = subst (λ
    (x : EngineState). StandsFor x.plan first commands x.tasks c.args.harts.now)
    (sym c.self.view_is) stands in
    let after =
    stands_after g.K.Sink.gained c.args.sink.now c.attempt-result.new.sink e.plan e.tasks
    c.attempt-result.new.tasks c.args.harts.now c.attempt-result.new.harts c.args.command
    c.attempt-result.result first commands c.self.invariant.harts
    c.attempt-result.ensures.outcome
    before in
    subst (λ (x : EngineState). StandsAfter g.K.Sink.gained c.args.sink.now
    c.attempt-result.new.sink x.plan first commands c.attempt-result.new.tasks
    c.attempt-result.new.harts c.args.command c.attempt-result.result) c.self.view_is after

pub returns-clause-counts : goal.returns-clause-counts
returns-clause-counts g c = λ accesses steps own within.
    let e = c.self.inside in
    let before = subst (λ (x : EngineState). CountsWithin accesses steps own
    (view_of x.tasks c.args.harts.now)) (sym c.self.view_is) within in
    counts_after g.K.Sink.gained c.args.sink.now c.attempt-result.new.sink e.plan e.tasks
    c.attempt-result.new.tasks
    c.args.harts.now c.attempt-result.new.harts c.args.command c.attempt-result.result accesses
    steps own c.requires.command
    c.attempt-result.ensures.outcome before
