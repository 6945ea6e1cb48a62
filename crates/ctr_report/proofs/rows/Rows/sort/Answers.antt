use Rattle.std.proofs.Common.{◌≡◌, ap, rules}
use Rattle.std.proofs.lemmas.List.Sorted.{answers_always, ranks_by}
use Rattle.std.specs.Ordering.{is_lt}
use Rattle.ctr_report.specs.Rows.{row_cmp}
use Rattle.ctr_report.proofs.RowLemmas.{row_total}
use Rattle.ctr_report.proofs.rows.Rows.sort.Goals as goal

pub returns-clause-sorted : goal.returns-clause-sorted
returns-clause-sorted c =
    c.sort_unstable_by.ensures.sorted (λ x y. is_lt (row_cmp x y)) (ranks_by row_total (λ r. r))
    (answers_always _ _ _ (λ f a r g h. let e : r ≡ row_cmp a.0.now a.1.0.now = search rules in ap is_lt e))
