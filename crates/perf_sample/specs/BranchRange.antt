-- The numbers of a branch lie in the widths of their fields.
use Rattle.std.specs.Prelude.{◌^◌, ◌<◌}
use Rattle.perf_sample.specs.declared.sample.Branch.{Branch}

pub record IsBranch (b : Branch) : Type 0 where
  pub from : b.from < 2 ^ 64
  pub to : b.to < 2 ^ 64
  pub flags : b.flags < 2 ^ 64
