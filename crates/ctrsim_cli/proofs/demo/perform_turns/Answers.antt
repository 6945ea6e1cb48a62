use Rattle.std.proofs.Common.{◌≡◌, refl, ℕ, ◌+◌, List, [], ◌∷◌, ◌++◌, length-append, sym, ap, ◌∙◌, subst, arith}
use Rattle.std.specs.Prelude.{None, Err}
use Rattle.replay_engine.specs.Refusals.{command_refusal}
use Rattle.sched_text.specs.declared.schedule.Command.{Command}
use Rattle.ctrsim_cli.specs.Demo.{demo_header, turns, run_of_turn, sample_of_turn}
use Rattle.ctrsim_cli.specs.Parts.{Made}
use Rattle.ctrsim_cli.proofs.DemoLaws.{plan, images, made_more, run_allowed, sample_allowed, never, turns_length, turns_more}
use Rattle.ctrsim_cli.proofs.demo.perform_turns.Goals as goal

pub loop-turn-init : goal.loop-turn-init
loop-turn-init g c = record {
  most = omega arith;
  made = record { bytes = []; chain = (refl, refl, refl); going = c.requires.begun; counted = c.new-counter.ensures };
}

pub perform-requires-clause-follows : goal.perform-requires-clause-follows
perform-requires-clause-follows g c =
    (demo_header, images, turns c.loop-turn.turn, omega (arith, turns_length c.loop-turn.turn, c.loop-turn-test.true, c.requires.few), c.loop-turn.invariant.made.going)

pub unreachable-requires : goal.unreachable-requires
unreachable-requires g c =
    let i = c.loop-turn.turn in
    let read = c.in_default.ensures.read in
    let why = c.in_default.field-0 in
    let fits : command_refusal plan (turns i) c.run_of.result ≡ None = ap (command_refusal plan (turns i)) c.run_of.ensures ∙ run_allowed (turns i) i in
    never g.H.HartSet.follows g.H.HartSet.tells g.H.HartSet.held demo_header images (turns i) c.run_of.result read.0 c.loop-turn.harts c.perform.new.engine c.perform.new.harts why fits
    (c.laws.ensures.goes_on demo_header images (turns i) c.loop-turn.engine c.perform.new.engine c.loop-turn.harts c.perform.new.harts c.run_of.result (Err why) read.0 c.loop-turn.invariant.made.going read.1)
    c.in_default.ensures.cause

pub perform-requires-in-loop-turn-clause-follows : goal.perform-requires-in-loop-turn-clause-follows
perform-requires-in-loop-turn-clause-follows g c =
    let i = c.loop-turn.turn in
    let read = c.in-Ok.ensures.read in
    let run = made_more g.H.HartSet.follows g.H.HartSet.performed g.H.HartSet.tells g.H.HartSet.held c.laws.ensures.goes_on c.args.engine.now c.args.harts.now c.loop-turn.engine c.perform.new.engine c.loop-turn.harts c.perform.new.harts
    c.loop-turn.counter c.perform.new.sink (turns i) c.run_of.result read.0 c.loop-turn.invariant.made read.1 read.2 in
    (demo_header, images, turns i ++ c.run_of.result ∷ [], omega (arith, turns_length i, length-append (turns i) (c.run_of.result ∷ []), c.loop-turn-test.true, c.requires.few), run.going)

pub unreachable-requires-in_default-perform : goal.unreachable-requires-in_default-perform
unreachable-requires-in_default-perform g c =
    let i = c.loop-turn.turn in
    let cs = turns i ++ c.run_of.result ∷ [] in
    let first = c.in-Ok.ensures.read in
    let run = made_more g.H.HartSet.follows g.H.HartSet.performed g.H.HartSet.tells g.H.HartSet.held c.laws.ensures.goes_on c.args.engine.now c.args.harts.now c.loop-turn.engine c.perform.new.engine c.loop-turn.harts c.perform.new.harts
    c.loop-turn.counter c.perform.new.sink (turns i) c.run_of.result first.0 c.loop-turn.invariant.made first.1 first.2 in
    let read = c.in_default-perform.ensures.read in
    let why = c.in_default-perform.field-0 in
    let fits : command_refusal plan cs c.sample_of.result ≡ None =
    ap (command_refusal plan cs) c.sample_of.ensures
    ∙ ap (λ (x : Command). command_refusal plan (turns i ++ x ∷ []) (sample_of_turn i)) c.run_of.ensures ∙ sample_allowed (turns i) i in
    never g.H.HartSet.follows g.H.HartSet.tells g.H.HartSet.held demo_header images cs c.sample_of.result read.0 c.perform.new.harts c.perform-in-loop-turn.new.engine c.perform-in-loop-turn.new.harts why fits
    (c.laws.ensures.goes_on demo_header images cs c.perform.new.engine c.perform-in-loop-turn.new.engine c.perform.new.harts c.perform-in-loop-turn.new.harts c.sample_of.result (Err why) read.0 run.going read.1)
    c.in_default-perform.ensures.cause

pub loop-turn-preserved : goal.loop-turn-preserved
loop-turn-preserved g c =
    let i = c.loop-turn.turn in
    let cs = turns i ++ c.run_of.result ∷ [] in
    let first = c.in-Ok.ensures.read in
    let second = c.in-Ok-perform.ensures.read in
    let run = made_more g.H.HartSet.follows g.H.HartSet.performed g.H.HartSet.tells g.H.HartSet.held c.laws.ensures.goes_on c.args.engine.now c.args.harts.now c.loop-turn.engine c.perform.new.engine c.loop-turn.harts c.perform.new.harts
    c.loop-turn.counter c.perform.new.sink (turns i) c.run_of.result first.0 c.loop-turn.invariant.made first.1 first.2 in
    let both = made_more g.H.HartSet.follows g.H.HartSet.performed g.H.HartSet.tells g.H.HartSet.held c.laws.ensures.goes_on c.args.engine.now c.args.harts.now c.perform.new.engine c.perform-in-loop-turn.new.engine c.perform.new.harts c.perform-in-loop-turn.new.harts
    c.perform.new.sink c.perform-in-loop-turn.new.sink cs c.sample_of.result second.0 run second.1 second.2 in
    let named : cs ++ c.sample_of.result ∷ [] ≡ turns (i + 1) =
    ap (λ (x : Command). (turns i ++ x ∷ []) ++ c.sample_of.result ∷ []) c.run_of.ensures ∙ ap (λ (x : Command). (turns i ++ run_of_turn i ∷ []) ++ x ∷ []) c.sample_of.ensures ∙ sym (turns_more i) in
    record {
      most = omega (arith, c.loop-turn-test.true);
      made = subst (λ (ds : List Command). Made g.H.HartSet.follows g.H.HartSet.performed c.args.engine.now c.args.harts.now ds c.perform-in-loop-turn.new.engine c.perform-in-loop-turn.new.harts c.perform-in-loop-turn.new.sink) named both;
    }

pub returns : goal.returns
returns g c =
    let all : c.loop-turn.turn ≡ c.args.number = omega (arith, c.loop-turn.invariant.most, c.loop-turn-test.false) in
    record { made = subst (λ (n : ℕ). Made g.H.HartSet.follows g.H.HartSet.performed c.args.engine.now c.args.harts.now (turns n) c.loop-turn.engine c.loop-turn.harts c.loop-turn.counter) all c.loop-turn.invariant.made }
