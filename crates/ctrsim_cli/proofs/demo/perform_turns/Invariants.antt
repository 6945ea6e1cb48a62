use Rattle.std.proofs.Common.{◌≤◌}
use Rattle.ctrsim_cli.specs.Demo.{turns}
use Rattle.ctrsim_cli.specs.Parts.{Made}
use Rattle.ctrsim_cli.proofs.demo.perform_turns.Given as goal

abbrev pub invariant-loop-turn : goal.invariant-loop-turn
invariant-loop-turn g l = record {
  most : l.turn ≤ l.number;
  made : Made g.H.HartSet.follows g.H.HartSet.performed l.fn.engine l.fn.harts (turns l.turn) l.engine l.harts l.counter;
}
