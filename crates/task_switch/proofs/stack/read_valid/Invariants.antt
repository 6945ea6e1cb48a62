use Rattle.std.proofs.Common.{◌≡◌, ◌≤◌, ◌+◌, ◌*◌, take, length}
use Rattle.ctr_buffer.specs.Entry.{valid_entries}
use Rattle.task_switch.specs.WhilePassing.{passed}
use Rattle.task_switch.proofs.stack.read_valid.Given as goal

abbrev pub invariant-loop-i : goal.invariant-loop-i
invariant-loop-i g l = record {
  slots : l.slots ≡ valid_entries (take l.i (g.P.CtrPort.unit l.fn.port).stack.slots);
  few : length l.slots ≤ l.i;
  unit : g.P.CtrPort.unit l.port ≡ passed l.i (g.P.CtrPort.unit l.fn.port);
  count : g.P.CtrPort.count l.port ≡ g.P.CtrPort.count l.fn.port + 4 * l.i;
  rest : g.P.CtrPort.same_rest l.fn.port l.port;
}
