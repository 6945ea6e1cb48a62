use Rattle.std.proofs.Common.{◌≡◌, ◌+◌, ◌*◌, length}
use Rattle.ctr_vectors.proofs.samples.append_sample.Given as goal

abbrev pub invariant-loop-from : goal.invariant-loop-from
invariant-loop-from l = record {
  len : length l.out.items ≡ length l.fn.out.items + (16 + 8 * (length l.fields + length l.index) + 24 * l.from-index);
}
