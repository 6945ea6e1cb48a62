use Rattle.std.proofs.Common.{◌≡◌, replicate, take}
use Rattle.ctr_buffer.specs.Entry.{zero_entry}
use Rattle.rv_hart.proofs.freshness.are_zero.Given as goal

abbrev pub invariant-loop-i : goal.invariant-loop-i
invariant-loop-i g l = take l.i (g.B.CtrStore.means l.store).slots ≡ replicate l.i zero_entry
