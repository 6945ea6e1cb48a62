use Rattle.std.proofs.Common.{◌≡◌, All, take}
use Rattle.perf_sample.specs.Layout.{LeftOut}
use Rattle.perf_sample.specs.Fields.{all_fields}
use Rattle.perf_sample.proofs.layout.Layout.takes_all.Given as goal

abbrev pub invariant-loop-place : goal.invariant-loop-place
invariant-loop-place l = record {
  items : l.place-items ≡ all_fields;
  left_out : All (LeftOut l.self l.sample) (take l.place-index all_fields);
}
