use Rattle.std.proofs.Common.{◌≡◌, ◌≤◌, take}
use Rattle.std.specs.Io.KnownBytes.{Consumes}
use Rattle.perf_sample.specs.Layout.{fields_in, Fits}
use Rattle.perf_sample.specs.Fields.{before_nr}
use Rattle.perf_sample.specs.Spelling.{fields_bytes}
use Rattle.perf_sample.specs.Sample.{IsSample}
use Rattle.perf_sample.proofs.front.read_front.Given as goal

abbrev pub invariant-loop-place : goal.invariant-loop-place
invariant-loop-place g l = record {
  items : l.place-items ≡ before_nr;
  took : Consumes (g.S.Source.left l.fn.source) (g.S.Source.left l.source) (fields_bytes l.sample (fields_in l.layout (take l.place-index before_nr)));
  fits : Fits l.layout l.sample;
  misc : l.sample.misc ≡ l.fn.sample.misc;
  branches : l.sample.branches ≡ l.fn.sample.branches;
  range : IsSample l.fn.sample → IsSample l.sample;
  later : g.S.Source.faults l.fn.source ≤ g.S.Source.faults l.source;
}
