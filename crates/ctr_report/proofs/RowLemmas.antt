-- The rows of a report, from its entries.
use Rattle.std.proofs.Common.{◌≡◌, ℕ, ◌+◌, ◌<◌, Bool, true, false, List, [], ◌∷◌, length, get_or, map, Option, Some, None, refl, sym, ap, ◌∙◌, arith, unwrap_or, cond, ◌&&◌}
use Rattle.std.proofs.lemmas.Bool.{both_ways, eq-eqb}
use Rattle.std.proofs.lemmas.Cmp.{nat_cmp_total, on_total, then_total, back_total, eq_by_cmp_equiv}
use Rattle.std.proofs.lemmas.List.{get_or-map, length-map}
use Rattle.std.proofs.lemmas.List.Elements.{All-map}
use Rattle.std.proofs.lemmas.List.Sorted.{All-permutation, Contains-permutation}
use Rattle.std.proofs.lemmas.Map.Keys.{IsDistinct-IsPermutation, IsDistinct-from_apart, Less-from_sorted, apart_from_distinct, sorted_from_all_adjacent}
use Rattle.std.proofs.lemmas.Map.Lookups.{CmpEqualImpliesEq, exact_unsigned, exact_pairs}
use Rattle.std.proofs.lemmas.Map.Views.{All-found, btree_map_get_iff}
use Rattle.std.specs.BTreeMap.{BTreeMap, IsOrdered, get}
use Rattle.std.specs.Cmp.{IsTotalOrder, tied_then}
use Rattle.std.proofs.lemmas.List.Sums.{get_or-le-sum_by, sum_by-cons}
use Rattle.std.specs.List.{All, Contains, IsDistinct, sum, sum_by}
use Rattle.std.specs.List.Sorted.{IsStrictlySortedBy, IsSorted, IsPermutation}
use Rattle.std.specs.Map.{keys_of, values_of}
use Rattle.std.specs.Ordering.{nat_cmp, is_eq, is_lt, eq_by_cmp, ordering_then, ordering_reverse}
use Rattle.std.specs.declared.cmp.Ordering.{Ordering}
use Rattle.std.specs.declared.cmp.Ordering.TheVariants.{Less, Equal, Greater}
use Rattle.perf_sample.specs.declared.sample.Branch.{Branch}
use Rattle.ctr_report.specs.declared.rows.Row.{Row}
use Rattle.ctr_report.specs.Counting.{has_pair, count_of}
use Rattle.ctr_report.specs.Report.{pair_cmp, Counts, row_at}
use Rattle.ctr_report.specs.Rows.{row_of, row_cmp, AreRows}
use Rattle.ctr_report.proofs.CountLemmas.{pair_total}

pub row_total : IsTotalOrder row_cmp
row_total =
    then_total (then_total (back_total (on_total (λ (r : Row). r.count) nat_cmp_total)) (on_total (λ (r : Row). r.from) nat_cmp_total)) (on_total (λ (r : Row). r.to) nat_cmp_total)

pub pair_exact : CmpEqualImpliesEq pair_cmp
pair_exact = exact_pairs nat_cmp nat_cmp exact_unsigned exact_unsigned

and_three : (c f t : Bool) → (f && t) ≡ false → ((c && f) && t) ≡ false
and_three true f t e = e
and_three false f t e = refl

-- entries of different pairs are different rows
apart : (a b : (ℕ × ℕ) × ℕ) → pair_cmp a.0 b.0 ≡ Less → eq_by_cmp row_cmp (row_at a) (row_at b) ≡ false
apart a b less =
    let count = nat_cmp b.1 a.1 in
    let from = nat_cmp a.0.0 b.0.0 in
    let to = nat_cmp a.0.1 b.0.1 in
    sym (tied_then (ordering_then count from) to)
    ∙ ap (λ (x : Bool). x && is_eq to) (sym (tied_then count from))
    ∙ and_three (is_eq count) (is_eq from) (is_eq to) (tied_then from to ∙ ap is_eq less)

rows_differ : (es : List ((ℕ × ℕ) × ℕ)) → IsStrictlySortedBy pair_cmp (keys_of es) → IsDistinct (eq_by_cmp row_cmp) (map row_at es)
rows_differ es sorted =
    let none : (ℕ × ℕ) × ℕ = ((0, 0), 0) in
    let nowhere : ℕ × ℕ = (0, 0) in
    IsDistinct-from_apart (eq_by_cmp row_cmp) (map row_at es)
    (λ i j d less within.
    let size : length (map row_at es) ≡ length es = length-map es row_at in
    let keys : length (keys_of es) ≡ length es = length-map es (λ (e : (ℕ × ℕ) × ℕ). e.0) in
    let at_j : j < length es = omega (arith, within, size) in
    let at_i : i < length es = omega (arith, less, at_j) in
    let below = Less-from_sorted pair_cmp (keys_of es) i j nowhere sorted less (omega (arith, at_j, keys)) in
    let first : get_or (keys_of es) i nowhere ≡ (get_or es i none).0 = get_or-map (λ (e : (ℕ × ℕ) × ℕ). e.0) es i none nowhere at_i in
    let second : get_or (keys_of es) j nowhere ≡ (get_or es j none).0 = get_or-map (λ (e : (ℕ × ℕ) × ℕ). e.0) es j none nowhere at_j in
    rw (get_or-map row_at es i none d at_i, get_or-map row_at es j none d at_j)
    (apart (get_or es i none) (get_or es j none) (rw (first, second) at below)))

flips : (x y : Row) → eq_by_cmp row_cmp x y ≡ eq_by_cmp row_cmp y x
flips x y = (eq_by_cmp_equiv row_total).symm x y

less_of : (o p : Ordering) → p ≡ ordering_reverse o → is_lt o ≡ false → is_eq p ≡ false → p ≡ Less
less_of Less p e lt eq = absurd (cc lt)
less_of Equal p e lt eq = absurd (both_ways (is_eq p) eq (ap is_eq e))
less_of Greater p e lt eq = e

-- rows in order of which no two are alike are strictly in order
strictly : (rows : List Row) → IsSorted row_cmp rows → IsDistinct (eq_by_cmp row_cmp) rows → IsStrictlySortedBy row_cmp rows
strictly rows sorted distinct =
    let none : Row = record { count = 0; from = 0; to = 0 } in
    sorted_from_all_adjacent row_total rows none
    (λ k within.
    let x = get_or rows k none in
    let y = get_or rows (k + 1) none in
    less_of (row_cmp y x) (row_cmp x y) (row_total.antisymm x y) (sorted k none (omega arith) within)
    (apart_from_distinct (eq_by_cmp row_cmp) rows k (k + 1) none distinct (omega arith) within))

-- each branch counts at least once
one : (b : Branch) → ◌≡◌ {A = ℕ} (cond (has_pair b.from b.to b) 1 0) 1
one b = rw (eq-eqb b.from b.from refl, eq-eqb b.to b.to refl) refl

counted : (branches : List Branch) → All (λ b. 0 < count_of b.from b.to branches) branches
counted branches = λ k d within.
    let b = get_or branches k d in
    omega (arith, get_or-le-sum_by (λ (x : Branch). cond (has_pair b.from b.to x) 1 0) branches k d within, one b)

some_of : (o : Option ℕ) (n : ℕ) → unwrap_or o 0 ≡ n → 0 < n → o ≡ Some n
some_of None n e some = absurd (omega (arith, e, some))
some_of (Some m) n e some = ap Some e

contains_map : {X Y : Type 0} (f : X → Y) (xs : List X) (x : X) → Contains xs x → Contains (map f xs) (f x)
contains_map f xs x c = (c.0, omega (arith, c.1, length-map xs f), get_or-map f xs c.0 x (f x) c.1 ∙ ap f c.2)

module _ (branches : List Branch) (m : BTreeMap (ℕ × ℕ) ℕ) (ordered : IsOrdered pair_cmp m) (some : All (λ n. 0 < n) (values_of m.entries))
    (so : Counts branches m.entries) where
  -- each branch has its row
  pub each_row : All (λ b. Contains (map row_at m.entries) (row_of branches b.from b.to)) branches
  each_row = λ k d within.
      let b = get_or branches k d in
      let n = count_of b.from b.to branches in
      let found : get pair_cmp m (b.from, b.to) ≡ Some n = some_of (get pair_cmp m (b.from, b.to)) n (so.each b.from b.to) (counted branches k d within) in
      contains_map row_at m.entries ((b.from, b.to), n) ((btree_map_get_iff pair_total pair_exact m ordered (b.from, b.to) n).0 found)

  -- and each row its count
  pub only_rows : All (λ r. (r ≡ row_of branches r.from r.to) × (0 < r.count)) (map row_at m.entries)
  only_rows =
      All-map (λ r. (r ≡ row_of branches r.from r.to) × (0 < r.count)) row_at m.entries
      (λ k d within.
      let e = get_or m.entries k d in
      let found : get pair_cmp m e.0 ≡ Some e.1 = All-found pair_total m ordered k d within in
      let count : e.1 ≡ count_of e.0.0 e.0.1 branches = sym (ap (λ (o : Option ℕ). unwrap_or o 0) found) ∙ so.each e.0.0 e.0.1 in
      let value : get_or (values_of m.entries) k d.1 ≡ e.1 = get_or-map (λ (x : (ℕ × ℕ) × ℕ). x.1) m.entries k d d.1 within in
      let above : 0 < get_or (values_of m.entries) k d.1 = some k d.1 (omega (arith, within, length-map m.entries (λ (x : (ℕ × ℕ) × ℕ). x.1))) in
      (ap (λ (n : ℕ). record { count = n; from = e.0.0; to = e.0.1 }) count, omega (arith, value, above)))

  pub are_rows : (rows : List Row) → IsPermutation (map row_at m.entries) rows → IsSorted row_cmp rows → AreRows branches rows
  are_rows rows moved sorted = record {
    each = λ k d within. Contains-permutation (map row_at m.entries) rows (row_of branches (get_or branches k d).from (get_or branches k d).to) moved (each_row k d within);
    only = All-permutation (λ r. (r ≡ row_of branches r.from r.to) × (0 < r.count)) (map row_at m.entries) rows moved only_rows;
    ordered = strictly rows sorted (IsDistinct-IsPermutation (eq_by_cmp row_cmp) flips (map row_at m.entries) rows moved (rows_differ m.entries ordered));
  }

-- the counts of the rows are those of the entries
pub sum_rows : (es : List ((ℕ × ℕ) × ℕ)) → sum_by (λ (r : Row). r.count) (map row_at es) ≡ sum (values_of es)
sum_rows [] = refl
sum_rows (e ∷ es) =
    sum_by-cons (λ (r : Row). r.count) (row_at e) (map row_at es)
    ∙ ap (λ (n : ℕ). e.1 + n) (sum_rows es)
    ∙ sym (sum_by-cons (λ (x : ℕ). x) e.1 (values_of es))
