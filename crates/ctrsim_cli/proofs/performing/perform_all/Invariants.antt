use Rattle.std.proofs.Common.{◌≡◌, ◌≤◌, ◌+◌, ◌-◌, false, None}
use Rattle.ctr_port.specs.InHand.{text_of}
use Rattle.ctrsim_cli.specs.Parts.{Performed}
use Rattle.ctrsim_cli.proofs.performing.perform_all.Given as goal

abbrev pub invariant-loop-command : goal.invariant-loop-command
invariant-loop-command g l = record {
  open_ : l.reader.refused ≡ None;
  goes : l.reader.ended ≡ false;
  number : l.reader.line ≡ l.fn.reader.line + l.reader.commands;
  most : l.reader.commands ≤ 1048576;
  performed : Performed g.H.HartSet.follows g.H.HartSet.performed g.K.Sink.gained l.fn.engine l.fn.harts l.fn.sink l.engine l.harts l.sink l.fn.reader.line l.reader.commands
      (text_of l.fn.reader.hand (g.S.Source.left l.fn.source)) (text_of l.reader.hand (g.S.Source.left l.source));
  read_later : g.S.Source.faults l.fn.source ≤ g.S.Source.faults l.source;
  write_later : g.K.Sink.faults l.fn.sink ≤ g.K.Sink.faults l.sink;
}

abbrev pub decreases-loop-command : goal.decreases-loop-command
decreases-loop-command g l = 1048577 - l.reader.commands
