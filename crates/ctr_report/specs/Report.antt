-- What contracts see of a report: pairs of source and target, each with its count.
use Rattle.std.specs.Prelude.{◌≡◌, ℕ, List, length}
use Rattle.std.specs.List.{sum}
use Rattle.std.specs.Map.{lookup, values_of}
use Rattle.std.specs.Option.{unwrap_or}
use Rattle.std.specs.BTreeMap.{is_at}
use Rattle.std.specs.Ordering.{nat_cmp, ordering_then}
use Rattle.std.specs.declared.cmp.Ordering.{Ordering}
use Rattle.perf_sample.specs.declared.sample.Branch.{Branch}
use Rattle.ctr_report.specs.Counting.{count_of, pair_count}
use Rattle.ctr_report.specs.declared.rows.Row.{Row}

-- by the source, and then by the target
abbrev pub pair_cmp : ℕ × ℕ → ℕ × ℕ → Ordering
pair_cmp a b = ordering_then (nat_cmp a.0 b.0) (nat_cmp a.1 b.1)

-- the count of a pair, or 0 where it isn't there
abbrev pub count_in : ℕ → ℕ → List ((ℕ × ℕ) × ℕ) → ℕ
count_in from to report = unwrap_or (lookup (is_at (pair_cmp (from, to))) report) 0

-- all counts together
abbrev pub total : List ((ℕ × ℕ) × ℕ) → ℕ
total report = sum (values_of report)

-- the report counts these branches and no others
pub record Counts (branches : List Branch) (report : List ((ℕ × ℕ) × ℕ)) : Type 0 where
  pub each : (from to : ℕ) → count_in from to report ≡ count_of from to branches
  pub all : total report ≡ length branches
  pub pairs : length report ≡ pair_count branches

-- a pair with its count, as a row
abbrev pub row_at : (ℕ × ℕ) × ℕ → Row
row_at e = record { count = e.1; from = e.0.0; to = e.0.1 }
