use Rattle.std.proofs.Common.{◌≡◌, ◌+◌, ◌≤◌, ◌++◌, length}
use Rattle.arrayvec.specs.ArrayVec.{array_vec_len}
use Rattle.ctrsim_cli.specs.SampleText.{dec}
use Rattle.ctrsim_cli.proofs.bytes.digits_of.Given as goal

abbrev pub invariant-loop-rest : goal.invariant-loop-rest
invariant-loop-rest l = record {
  number : dec l.rest ++ l.digits.items ≡ dec l.number;
  room : length (dec l.rest) + array_vec_len l.digits ≤ 20;
}

abbrev pub decreases-loop-rest : goal.decreases-loop-rest
decreases-loop-rest l = l.rest
