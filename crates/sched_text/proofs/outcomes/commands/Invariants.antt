use Rattle.std.proofs.Common.{◌≡◌, ◌≤◌, ◌+◌, ◌-◌, false, None}
use Rattle.ctr_port.specs.InHand.{text_of, Of}
use Rattle.sched_text.specs.Outcomes.{HasFirstCommands}
use Rattle.sched_text.proofs.outcomes.commands.Given as goal

abbrev pub invariant-loop-command : goal.invariant-loop-command
invariant-loop-command g l = record {
  open_ : l.reader.refused ≡ None;
  goes : l.reader.ended ≡ false;
  number : l.reader.line ≡ l.fn.reader.line + l.reader.commands;
  most : l.reader.commands ≤ 1048576;
  given : Of (text_of l.fn.reader.hand (g.S.Source.left l.fn.source)) (text_of l.reader.hand (g.S.Source.left l.source)) (HasFirstCommands l.fn.reader.line l.reader.commands);
  later : g.S.Source.faults l.fn.source ≤ g.S.Source.faults l.source;
}

abbrev pub decreases-loop-command : goal.decreases-loop-command
decreases-loop-command g l = 1048577 - l.reader.commands
