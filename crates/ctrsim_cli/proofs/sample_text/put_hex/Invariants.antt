use Rattle.std.proofs.Common.{◌≡◌, ◌+◌, ◌≤◌, ◌++◌}
use Rattle.arrayvec.specs.ArrayVec.{array_vec_len}
use Rattle.ctrsim_cli.specs.SampleText.{hex16, hex_digits}
use Rattle.ctrsim_cli.proofs.sample_text.put_hex.Given as goal

abbrev pub invariant-loop-place : goal.invariant-loop-place
invariant-loop-place l = record {
  items : l.out.items ++ hex_digits l.place l.number ≡ l.fn.out.items ++ hex16 l.number;
  len : array_vec_len l.out + l.place ≡ array_vec_len l.fn.out + 18;
  within : l.place ≤ 16;
}

abbrev pub decreases-loop-place : goal.decreases-loop-place
decreases-loop-place l = l.place
