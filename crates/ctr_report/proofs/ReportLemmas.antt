-- Branches have one list of rows, in any order.
use Rattle.std.proofs.Common.{◌≡◌, get_or, ℕ, ◌+◌, ◌<◌, Bool, true, false, List, [], ◌∷◌, refl, sym, ap, ◌∙◌, arith, subst, cond, ◌&&◌}
use Rattle.std.proofs.lemmas.Bool.{both_ways, eqb-true}
use Rattle.std.proofs.lemmas.Cmp.{tied_itself}
use Rattle.std.proofs.lemmas.List.Elements.{All-contains, Contains-append_left, Contains-append_right, Contains-push}
use Rattle.std.proofs.lemmas.List.Sorted.{All-permutation, sum_by-IsPermutation}
use Rattle.std.proofs.lemmas.List.Sums.{sum_by-cons}
use Rattle.std.proofs.lemmas.Map.Keys.{sorted_tail}
use Rattle.std.proofs.lemmas.Map.Made.{Contains-tail}
use Rattle.std.proofs.lemmas.Map.Views.{All-after_first}
use Rattle.std.specs.Cmp.{tied_then, unsigned_tied}
use Rattle.std.specs.List.{Contains, count_by}
use Rattle.std.specs.List.Sorted.{IsStrictlySortedBy, IsPermutation}
use Rattle.std.specs.Ordering.{nat_cmp, is_eq, is_lt, ordering_then, ordering_reverse}
use Rattle.std.specs.declared.cmp.Ordering.{Ordering}
use Rattle.std.specs.declared.cmp.Ordering.TheVariants.{Less, Equal, Greater}
use Rattle.perf_sample.specs.declared.sample.Branch.{Branch}
use Rattle.ctr_report.specs.declared.rows.Row.{Row}
use Rattle.ctr_report.specs.Counting.{has_pair, count_of}
use Rattle.ctr_report.specs.Rows.{row_of, row_cmp, AreRows}
use Rattle.ctr_report.proofs.CountLemmas.{pair_is}
use Rattle.ctr_report.proofs.RowLemmas.{row_total}

head_of : {X : Type 0} (x : X) (xs : List X) → Contains (x ∷ xs) x
head_of x xs = Contains-append_left (x ∷ []) xs x (Contains-push [] x)

behind : {X : Type 0} (x : X) (xs : List X) (q : X) → Contains xs q → Contains (x ∷ xs) q
behind x xs q c = Contains-append_right (x ∷ []) xs q c

left_true : (a b : Bool) → (a && b) ≡ true → a ≡ true
left_true true b e = refl
left_true false b e = e

right_true : (a b : Bool) → (a && b) ≡ true → b ≡ true
right_true true b e = e
right_true false b e = absurd (both_ways false refl e)

number_is : (m n : ℕ) → is_eq (nat_cmp m n) ≡ true → m ≡ n
number_is m n e = eqb-true m n (sym (unsigned_tied m n) ∙ e)

-- rows that tie are one row
row_exact : (x y : Row) → row_cmp x y ≡ Equal → x ≡ y
row_exact x y e =
    let count = nat_cmp y.count x.count in
    let from = nat_cmp x.from y.from in
    let to = nat_cmp x.to y.to in
    let all : (is_eq (ordering_then count from) && is_eq to) ≡ true = tied_then (ordering_then count from) to ∙ ap is_eq e in
    let two : (is_eq count && is_eq from) ≡ true = tied_then count from ∙ left_true (is_eq (ordering_then count from)) (is_eq to) all in
    let same_count = sym (number_is y.count x.count (left_true (is_eq count) (is_eq from) two)) in
    let same_from = number_is x.from y.from (right_true (is_eq count) (is_eq from) two) in
    let same_to = number_is x.to y.to (right_true (is_eq (ordering_then count from)) (is_eq to) all) in
    ap (λ (n : ℕ). record { count = n; from = x.from; to = x.to }) same_count
    ∙ ap (λ (n : ℕ). record { count = y.count; from = n; to = x.to }) same_from
    ∙ ap (λ (n : ℕ). record { count = y.count; from = y.from; to = n }) same_to

not_itself : (x r : Row) → row_cmp x r ≡ Less → x ≡ r → ⊥
not_itself x r less e =
    let itself : row_cmp x x ≡ Less = subst (λ (z : Row). row_cmp x z ≡ Less) (sym e) less in
    both_ways (is_eq (row_cmp x x)) (ap is_eq itself) (ap is_eq (tied_itself row_total x))

later : (x r : Row) (xs : List Row) → IsStrictlySortedBy row_cmp (x ∷ xs) → Contains xs r → row_cmp x r ≡ Less
later x r xs sorted c = All-contains (λ (q : Row). row_cmp x q ≡ Less) xs r (All-after_first row_cmp x xs sorted) c

-- two lists in order that have the same rows begin with the same
first_is : (x y : Row) (xs ys : List Row) → IsStrictlySortedBy row_cmp (x ∷ xs) → IsStrictlySortedBy row_cmp (y ∷ ys)
    → Contains (y ∷ ys) x → Contains (x ∷ xs) y → (o : Ordering) → row_cmp y x ≡ o → x ≡ y
first_is x y xs ys s t there here Equal e = sym (row_exact y x e)
first_is x y xs ys s t there here Less e =
    let less = later x y xs s (Contains-tail x xs y (λ w. not_itself y x e (sym w)) here) in
    absurd (both_ways (is_lt (row_cmp x y)) (ap is_lt (row_total.antisymm x y ∙ ap ordering_reverse e)) (ap is_lt less))
first_is x y xs ys s t there here Greater e =
    let other : (y ≡ x) → ⊥ = λ w. both_ways (is_eq (row_cmp y x)) (ap is_eq e) (ap is_eq (subst (λ (z : Row). row_cmp z x ≡ Equal) (sym w) (tied_itself row_total x))) in
    let less = later y x ys t (Contains-tail y ys x other there) in
    absurd (both_ways (is_lt (row_cmp y x)) (ap is_lt e) (ap is_lt less))

same_rows : (xs ys : List Row) → IsStrictlySortedBy row_cmp xs → IsStrictlySortedBy row_cmp ys
    → ((r : Row) → Contains xs r → Contains ys r) → ((r : Row) → Contains ys r → Contains xs r) → xs ≡ ys
same_rows [] [] s t f g = refl
same_rows [] (y ∷ ys) s t f g = let c = g y (head_of y ys) in absurd (omega (arith, c.1))
same_rows (x ∷ xs) [] s t f g = let c = f x (head_of x xs) in absurd (omega (arith, c.1))
same_rows (x ∷ xs) (y ∷ ys) s t f g =
    let e = first_is x y xs ys s t (f x (head_of x xs)) (g y (head_of y ys)) (row_cmp y x) refl in
    let rest = same_rows xs ys (sorted_tail row_cmp x xs s) (sorted_tail row_cmp y ys t)
    (λ r c. Contains-tail y ys r (λ w. not_itself x r (later x r xs s c) (e ∙ w)) (f r (behind x xs r c)))
    (λ r c. Contains-tail x xs r (λ w. not_itself y r (later y r ys t c) (sym e ∙ w)) (g r (behind y ys r c))) in
    ap (λ (z : Row). z ∷ xs) e ∙ ap (λ (zs : List Row). y ∷ zs) rest

-- some branch of those that are counted
abbrev pub Passes : (Branch → Bool) → List Branch → Type 0
Passes p xs = (x : Branch) × Contains xs x × (p x ≡ true)

passes_by : (p : Branch → Bool) (x : Branch) (xs : List Branch) (test : Bool) → p x ≡ test → 0 < count_by p (x ∷ xs)
    → (0 < count_by p xs → Passes p xs) → Passes p (x ∷ xs)
passes_by p x xs true e some rest = (x, head_of x xs, e)
passes_by p x xs false e some rest =
    let split : ◌≡◌ {A = ℕ} (count_by p (x ∷ xs)) (cond (p x) 1 0 + count_by p xs) = sum_by-cons (λ (y : Branch). cond (p y) 1 0) x xs in
    let none : ◌≡◌ {A = ℕ} (cond (p x) 1 0) 0 = rw e refl in
    let found = rest (omega (arith, some, split, none)) in
    (found.0, behind x xs found.0 found.1, found.2)

passes : (p : Branch → Bool) (xs : List Branch) → 0 < count_by p xs → Passes p xs
passes p [] some = absurd (omega (arith, some))
passes p (x ∷ xs) some = passes_by p x xs (p x) refl some (passes p xs)

among : (branches : List Branch) (rows other : List Row) → AreRows branches rows → AreRows branches other
    → (r : Row) → Contains rows r → Contains other r
among branches rows other one two r c =
    let own = All-contains (λ (q : Row). (q ≡ row_of branches q.from q.to) × (0 < q.count)) rows r one.only c in
    let count : r.count ≡ count_of r.from r.to branches = ap (λ (q : Row). q.count) own.0 in
    let b = passes (has_pair r.from r.to) branches (omega (arith, own.1, count)) in
    let pair = pair_is r.from r.to b.0 b.2 in
    let there = All-contains (λ (x : Branch). Contains other (row_of branches x.from x.to)) branches b.0 two.each b.1 in
    subst (Contains other)
    (ap (λ (n : ℕ). row_of branches n b.0.to) pair.0 ∙ ap (row_of branches r.from) pair.1 ∙ sym own.0) there

pub one_report : (branches : List Branch) (rows other : List Row) → AreRows branches rows → AreRows branches other → rows ≡ other
one_report branches rows other one two =
    same_rows rows other one.ordered two.ordered (among branches rows other one two) (among branches other rows two one)

-- a pair has the same row in any order of the branches
row_moved : (branches other : List Branch) (from to : ℕ) → IsPermutation branches other → row_of branches from to ≡ row_of other from to
row_moved branches other from to moved =
    let count : count_of from to other ≡ count_of from to branches = sum_by-IsPermutation (λ (x : Branch). cond (has_pair from to x) 1 0) branches other moved in
    ap (λ (n : ℕ). record { count = n; from = from; to = to }) (sym count)

pub any_order : (branches other : List Branch) (rows : List Row) → IsPermutation branches other → AreRows branches rows → AreRows other rows
any_order branches other rows moved so = record {
  each =
      All-permutation (λ b. Contains rows (row_of other b.from b.to)) branches other moved
      (λ k d within.
      let b = get_or branches k d in
      subst (Contains rows) (row_moved branches other b.from b.to moved) (so.each k d within));
  only = λ k d within.
      let r = get_or rows k d in
      let own = so.only k d within in
      (own.0 ∙ row_moved branches other r.from r.to moved, own.1);
  ordered = so.ordered;
}
