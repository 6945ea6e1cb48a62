-- The sample that says nothing, and samples whose numbers lie in the widths of their fields.
use Rattle.std.specs.Prelude.{◌^◌, ◌<◌, []}
use Rattle.std.specs.List.{All, AllByRecursion}
use Rattle.perf_sample.specs.declared.sample.Sample.{Sample}
use Rattle.perf_sample.specs.BranchRange.{IsBranch}
use Rattle.perf_sample.specs.Fields.{all_fields, word_of}
use Rattle.perf_sample.specs.Word.{InWidth}

abbrev pub blank : Sample
blank = record {
  misc = 0;
  identifier = 0;
  ip = 0;
  pid = 0;
  tid = 0;
  time = 0;
  addr = 0;
  id = 0;
  stream_id = 0;
  cpu = 0;
  period = 0;
  hw_index = 0;
  branches = [];
}

pub record IsSample (s : Sample) : Type 0 where
  pub misc : s.misc < 2 ^ 16
  pub fields : AllByRecursion (λ p. InWidth (word_of p s)) all_fields
  pub branches : All IsBranch s.branches
