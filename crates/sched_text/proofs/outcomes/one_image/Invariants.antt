use Rattle.std.proofs.Common.{◌≡◌, ◌≤◌, take, None}
use Rattle.ctr_port.specs.InHand.{text_of, Of}
use Rattle.sched_text.specs.Outcomes.{IsBehind, total}
use Rattle.sched_text.proofs.outcomes.one_image.Given as goal

abbrev pub invariant-loop-task : goal.invariant-loop-task
invariant-loop-task g l = record {
  open_ : l.reader.refused ≡ None;
  line : l.reader.line ≡ l.fn.reader.line;
  at : l.at ≡ l.task-index;
  below : l.at ≤ l.which;
  passed : Of (text_of l.fn.reader.hand (g.S.Source.left l.fn.source)) (text_of l.reader.hand (g.S.Source.left l.source)) (IsBehind (total (take l.task-index l.tasks)));
  later : g.S.Source.faults l.fn.source ≤ g.S.Source.faults l.source;
}
