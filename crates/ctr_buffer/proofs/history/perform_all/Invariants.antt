use Rattle.std.proofs.Common.{◌≡◌, take, drop, fold}
use Rattle.ctr_buffer.specs.History.{after, CanTakeAll}
use Rattle.ctr_buffer.proofs.history.perform_all.Given as goal

abbrev pub invariant-loop-event : goal.invariant-loop-event
invariant-loop-event g l = record {
  so_far : g.B.CtrStore.means l.store ≡ fold after (g.B.CtrStore.means l.fn.store) (take l.event-index l.events);
  rest : CanTakeAll (g.B.CtrStore.means l.store) (drop l.event-index l.events);
}
