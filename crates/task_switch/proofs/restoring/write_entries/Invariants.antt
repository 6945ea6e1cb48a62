use Rattle.std.proofs.Common.{◌≡◌, ◌+◌, ◌*◌}
use Rattle.task_switch.specs.WhilePassing.{filled}
use Rattle.task_switch.proofs.restoring.write_entries.Given as goal

abbrev pub invariant-loop-slot : goal.invariant-loop-slot
invariant-loop-slot g l = record {
  at : l.i ≡ l.slot-index;
  unit : g.P.CtrPort.unit l.port ≡ filled l.slot-index l.slots (g.P.CtrPort.unit l.fn.port);
  count : g.P.CtrPort.count l.port ≡ g.P.CtrPort.count l.fn.port + 4 * l.slot-index;
  rest : g.P.CtrPort.same_rest l.fn.port l.port;
}
