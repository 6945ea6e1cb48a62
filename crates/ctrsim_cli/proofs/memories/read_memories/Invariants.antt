use Rattle.std.proofs.Common.{◌≡◌, ◌≤◌, None}
use Rattle.ctrsim_cli.specs.Parts.{FirstMemories}
use Rattle.ctr_port.specs.InHand.{text_of}
use Rattle.ctrsim_cli.proofs.memories.read_memories.Given as goal

abbrev pub invariant-loop-task : goal.invariant-loop-task
invariant-loop-task g l = record {
  open_ : l.reader.refused ≡ None;
  line : l.reader.line ≡ l.fn.reader.line;
  commands : l.reader.commands ≡ l.fn.reader.commands;
  ended : l.reader.ended ≡ l.fn.reader.ended;
  read : FirstMemories l.tasks l.task-index l.mems (text_of l.fn.reader.hand (g.S.Source.left l.fn.source)) (text_of l.reader.hand (g.S.Source.left l.source));
  later : g.S.Source.faults l.fn.source ≤ g.S.Source.faults l.source;
}
