use Rattle.std.proofs.Common.{◌≡◌, replicate}
use Rattle.ctr_buffer.specs.Entry.{zero_entry}
use Rattle.task_switch.proofs.save_area.zeros.Given as goal

abbrev pub invariant-loop-i : goal.invariant-loop-i
invariant-loop-i l = l.slots ≡ replicate l.i zero_entry
