use Rattle.std.proofs.Common.{◌≡◌, ℕ, List, [], ◌∷◌, ◌++◌, replicate, sym, ap, ◌∙◌, arith}
use Rattle.rv_hart.specs.Memory.{memory_of}
use Rattle.replay_engine.specs.Start.{memories}
use Rattle.ctrsim_cli.specs.Demo.{demo_image, demo_lines}
use Rattle.ctrsim_cli.proofs.DemoLaws.{demo_memories_more}
use Rattle.ctrsim_cli.proofs.demo.memories.Goals as goal

pub loop-preserved : goal.loop-preserved
loop-preserved c =
    let n = c.loop.counter in
    record {
      most = omega (arith, c.loop-test.true);
      are = c.in_ok-add_memory.ensures.added ∙ ap (λ (ms : List (List ℕ)). ms ++ memory_of demo_image 12 ∷ []) c.loop.invariant.are ∙ sym (demo_memories_more n);
    }

pub returns : goal.returns
returns c =
    let all : c.loop.counter ≡ 8 = omega (arith, c.loop.invariant.most, c.loop-test.false) in
    c.loop.invariant.are ∙ ap (λ (n : ℕ). memories (demo_lines n) (replicate n demo_image)) all
