-- The rows of a report.
use Rattle.std.specs.Prelude.{◌≡◌, ℕ, ◌<◌, List, All}
use Rattle.std.specs.List.{Contains}
use Rattle.std.specs.List.Sorted.{IsStrictlySortedBy}
use Rattle.std.specs.Ordering.{nat_cmp, ordering_then}
use Rattle.std.specs.declared.cmp.Ordering.{Ordering}
use Rattle.perf_sample.specs.declared.sample.Branch.{Branch}
use Rattle.ctr_report.specs.declared.rows.Row.{Row}
use Rattle.ctr_report.specs.Counting.{count_of}

-- the row of a pair
abbrev pub row_of : List Branch → ℕ → ℕ → Row
row_of branches from to = record { count = count_of from to branches; from = from; to = to }

-- by falling count, then by rising source, then by rising target
abbrev pub row_cmp : Row → Row → Ordering
row_cmp a b =
    ordering_then (ordering_then (nat_cmp b.count a.count) (nat_cmp a.from b.from))
    (nat_cmp a.to b.to)

-- the rows of these branches: the pair of each branch has its row, every row is that of its pair and
-- of some branch, and each comes before those behind it
pub record AreRows (branches : List Branch) (rows : List Row) : Type 0 where
  pub each : All (λ b. Contains rows (row_of branches b.from b.to)) branches
  pub only : All (λ r. (r ≡ row_of branches r.from r.to) × (0 < r.count)) rows
  pub ordered : IsStrictlySortedBy row_cmp rows
