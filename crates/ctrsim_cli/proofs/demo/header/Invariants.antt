use Rattle.std.proofs.Common.{◌≡◌, ◌≤◌}
use Rattle.ctrsim_cli.specs.Demo.{demo_lines}
use Rattle.ctrsim_cli.proofs.demo.header.Given as goal

abbrev pub invariant-loop-number : goal.invariant-loop-number
invariant-loop-number l = record {
  most : l.number ≤ 8;
  are : l.tasks ≡ demo_lines l.number;
}
