use Rattle.std.proofs.Common.{◌≡◌, ◌≤◌, ◌+◌, ◌*◌, ◌++◌, All, length, take}
use Rattle.arrayvec.specs.ArrayVec.{array_vec_len}
use Rattle.perf_sample.specs.Word.{InWidth}
use Rattle.perf_sample.specs.Fields.{word_of}
use Rattle.perf_sample.specs.Layout.{fields_in}
use Rattle.perf_sample.specs.Fields.{before_nr}
use Rattle.perf_sample.specs.Spelling.{fields_bytes}
use Rattle.perf_sample.proofs.writing.put_front.Given as goal

abbrev pub invariant-loop-place : goal.invariant-loop-place
invariant-loop-place l = record {
  items : l.place-items ≡ before_nr;
  bytes : l.out.items ≡ l.fn.out.items ++ fields_bytes l.sample (fields_in l.layout (take l.place-index before_nr));
  len : array_vec_len l.out ≡ array_vec_len l.fn.out + 8 * length (fields_in l.layout (take l.place-index before_nr));
  most : array_vec_len l.out ≤ array_vec_len l.fn.out + 8 * l.place-index;
  range : All (λ p. InWidth (word_of p l.sample)) (take l.place-index before_nr);
}
