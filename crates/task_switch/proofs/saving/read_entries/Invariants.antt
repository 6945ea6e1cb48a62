use Rattle.std.proofs.Common.{◌≡◌, ◌+◌, ◌*◌, take}
use Rattle.task_switch.specs.WhilePassing.{passed}
use Rattle.task_switch.proofs.saving.read_entries.Given as goal

abbrev pub invariant-loop-i : goal.invariant-loop-i
invariant-loop-i g l = record {
  slots : l.slots ≡ take l.i (g.P.CtrPort.unit l.fn.port).stack.slots;
  unit : g.P.CtrPort.unit l.port ≡ passed l.i (g.P.CtrPort.unit l.fn.port);
  count : g.P.CtrPort.count l.port ≡ g.P.CtrPort.count l.fn.port + 4 * l.i;
  rest : g.P.CtrPort.same_rest l.fn.port l.port;
}
