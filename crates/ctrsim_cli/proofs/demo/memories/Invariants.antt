use Rattle.std.proofs.Common.{◌≡◌, ◌≤◌, replicate}
use Rattle.replay_engine.specs.Start.{memories}
use Rattle.ctrsim_cli.specs.Demo.{demo_image, demo_lines}
use Rattle.ctrsim_cli.proofs.demo.memories.Given as goal

abbrev pub invariant-loop : goal.invariant-loop
invariant-loop l = record {
  most : l.counter ≤ 8;
  are : l.mems ≡ memories (demo_lines l.counter) (replicate l.counter demo_image);
}
