use Rattle.std.proofs.Common.{◌≡◌, ◌≤◌, length}
use Rattle.std.specs.Io.KnownBytes.{Consumes}
use Rattle.std.specs.List.{flat_map, All}
use Rattle.perf_sample.specs.Layout.{FlagsFit}
use Rattle.perf_sample.specs.BranchRange.{IsBranch}
use Rattle.perf_sample.specs.Spelling.{branch_bytes}
use Rattle.perf_sample.proofs.branch.read_branches.Given as goal

abbrev pub invariant-loop-number : goal.invariant-loop-number
invariant-loop-number g l = record {
  took : Consumes (g.S.Source.left l.fn.source) (g.S.Source.left l.source) (flat_map branch_bytes l.branches);
  count : length l.branches ≡ l.number;
  fit : FlagsFit l.branches;
  range : All IsBranch l.branches;
  later : g.S.Source.faults l.fn.source ≤ g.S.Source.faults l.source;
}
