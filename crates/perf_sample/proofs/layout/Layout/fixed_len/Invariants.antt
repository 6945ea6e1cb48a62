use Rattle.std.proofs.Common.{◌≡◌, ◌≤◌, ◌+◌, ◌*◌, length, take}
use Rattle.perf_sample.specs.Layout.{fields_in}
use Rattle.perf_sample.specs.Fields.{all_fields}
use Rattle.perf_sample.proofs.layout.Layout.fixed_len.Given as goal

abbrev pub invariant-loop-place : goal.invariant-loop-place
invariant-loop-place l = record {
  items : l.place-items ≡ all_fields;
  len : l.len ≡ 8 + 8 * length (fields_in l.self (take l.place-index all_fields));
  most : l.len ≤ 8 + 8 * l.place-index;
}
