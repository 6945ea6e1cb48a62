use Rattle.std.proofs.Common.{◌≡◌, List, length, map, ap, sym, ◌∙◌, subst}
use Rattle.std.proofs.lemmas.List.{length-map}
use Rattle.std.proofs.lemmas.List.Sorted.{length_permutation, sum_by-IsPermutation}
use Rattle.std.specs.List.Sorted.{IsPermutation}
use Rattle.std.specs.List.{sum_by}
use Rattle.ctr_report.specs.declared.rows.Row.{Row}
use Rattle.ctr_report.specs.Report.{Counts, row_at, total}
use Rattle.ctr_report.proofs.RowLemmas.{are_rows, sum_rows}
use Rattle.ctr_report.proofs.report.Report.rows.Goals as goal

pub returns-clause-rows : goal.returns-clause-rows
returns-clause-rows c = λ branches so.
    let start : c.in_ok-rows.rows ≡ map row_at c.self.inside.counts.entries = c.in_ok-rows.ensures in
    are_rows branches c.self.inside.counts c.self.invariant.0 c.self.invariant.1
    (subst (Counts branches) (sym c.self.view_is) so) c.sort.new.self
    (subst (λ (xs : List Row). IsPermutation xs c.sort.new.self) start c.sort.ensures.permutation)
    c.sort.ensures.sorted

pub returns-clause-sum : goal.returns-clause-sum
returns-clause-sum c = λ branches so.
    sum_by-IsPermutation (λ (r : Row). r.count) c.in_ok-rows.rows c.sort.new.self c.sort.ensures.permutation
    ∙ ap (sum_by (λ (r : Row). r.count)) c.in_ok-rows.ensures
    ∙ sum_rows c.self.inside.counts.entries
    ∙ ap total c.self.view_is
    ∙ so.all

pub returns-clause-pairs : goal.returns-clause-pairs
returns-clause-pairs c = λ branches so.
    length_permutation c.in_ok-rows.rows c.sort.new.self c.sort.ensures.permutation
    ∙ ap (λ (xs : List Row). length xs) c.in_ok-rows.ensures
    ∙ length-map c.self.inside.counts.entries row_at
    ∙ ap (λ e. length e) c.self.view_is
    ∙ so.pairs
