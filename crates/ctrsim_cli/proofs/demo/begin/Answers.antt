use Rattle.std.proofs.Common.{◌∙◌, [], ap, sym, subst}
use Rattle.replay_engine.specs.Start.{AreMemories, memories}
use Rattle.sched_text.specs.Header.{IsHeader}
use Rattle.sched_text.specs.declared.schedule.Header.{Header}
use Rattle.ctrsim_cli.specs.Demo.{demo_lines}
use Rattle.ctrsim_cli.proofs.DemoLaws.{demo_is_header, demo_memories, images}
use Rattle.ctrsim_cli.proofs.demo.begin.Goals as goal

pub start-requires-clause-header : goal.start-requires-clause-header
start-requires-clause-header g c = subst IsHeader (sym c.in_ok-header.ensures) demo_is_header

pub start-requires-clause-mems : goal.start-requires-clause-mems
start-requires-clause-mems g c =
    subst (λ (h : Header). AreMemories h.tasks c.in_ok-mems.mems) (sym c.in_ok-header.ensures) (subst (AreMemories (demo_lines 8)) (sym c.in_ok-mems.ensures) demo_memories)

pub returns : goal.returns
returns g c = λ harts fresh.
    subst (λ (h : Header). g.H.HartSet.follows h images [] c.in_ok-engine.engine harts) c.in_ok-header.ensures
    (c.in_ok-engine.ensures.begins images harts (c.in_ok-mems.ensures ∙ ap (λ (h : Header). memories h.tasks images) (sym c.in_ok-header.ensures)) fresh)
