use Rattle.std.proofs.Common.{◌-◌, ◌≤◌}
use Rattle.ctrsim_cli.proofs.Shows.{Shows}
use Rattle.ctrsim_cli.proofs.showing.show_each.Given as goal

abbrev pub invariant-loop-next : goal.invariant-loop-next
invariant-loop-next g l = record {
  so : Shows g.K.Sink.gained l.layout (g.S.Source.left l.fn.source) (g.S.Source.left l.source) l.fn.sink l.sink l.reader;
  source_later : g.S.Source.faults l.fn.source ≤ g.S.Source.faults l.source;
  sink_later : g.K.Sink.faults l.fn.sink ≤ g.K.Sink.faults l.sink;
}

abbrev pub decreases-loop-next : goal.decreases-loop-next
decreases-loop-next g l = 16777217 - l.reader.given
