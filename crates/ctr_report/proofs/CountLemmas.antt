-- One more branch in a report.
use Rattle.std.proofs.Common.{◌≡◌, inl, inr, ℕ, ◌+◌, ◌<◌, Bool, true, false, cond, List, [], ◌∷◌, ◌++◌, length, Option, Some, None, refl, sym, ap, ◌∙◌, arith, length-append, unwrap_or, ◌&&◌, ◌==◌, subst, if◌then◌else◌, nat_eq}
use Rattle.std.proofs.lemmas.List.Sums.{sum_by_push, sum_by-cons}
use Rattle.std.proofs.lemmas.Cmp.{nat_cmp_total, on_total, then_total}
use Rattle.std.proofs.lemmas.Bool.{both_ways, eq-eqb, ne_eqb}
use Rattle.std.proofs.lemmas.Bool.Decides.{eqb_tells}
use Rattle.std.specs.BTreeMap.{is_at, insert_entry}
use Rattle.std.specs.List.{All}
use Rattle.std.specs.List.Sorted.{IsStrictlySortedBy}
use Rattle.std.specs.Option.{option_map, IfSome}
use Rattle.std.proofs.lemmas.Map.Entries.{sum_by-set_value, sum_by-insert_entry}
use Rattle.std.proofs.lemmas.Map.Views.{IfSome-lookup_from_All}
use Rattle.std.specs.Cmp.{IsTotalOrder, tied_then, unsigned_tied}
use Rattle.std.specs.Map.{lookup, set_value, keys_of, values_of}
use Rattle.std.specs.Ordering.{nat_cmp, is_eq}
use Rattle.perf_sample.specs.declared.sample.Branch.{Branch}
use Rattle.ctr_report.specs.Counting.{has_pair, count_of, pair_count}
use Rattle.ctr_report.specs.Report.{pair_cmp, count_in, total, Counts}

pub pair_total : IsTotalOrder pair_cmp
pair_total = then_total (on_total (λ (p : ℕ × ℕ). p.0) nat_cmp_total) (on_total (λ (p : ℕ × ℕ). p.1) nat_cmp_total)

-- a query finds exactly the pair of the branch
pub tie : (b : Branch) (from to : ℕ) → is_at (pair_cmp (b.from, b.to)) (from, to) ≡ has_pair from to b
tie b from to =
    sym (tied_then (nat_cmp b.from from) (nat_cmp b.to to))
    ∙ ap (λ (x : Bool). x && is_eq (nat_cmp b.to to)) (unsigned_tied b.from from)
    ∙ ap (λ (x : Bool). (b.from == from) && x) (unsigned_tied b.to to)

-- the pair of a branch that has one is this one
pub pair_is : (from to : ℕ) (b : Branch) → has_pair from to b ≡ true → (b.from ≡ from) × (b.to ≡ to)
pair_is from to b e =
    elim (eqb_tells b.from from) [
      | inl p ↦ elim (eqb_tells b.to to) [
        | inl q ↦ (p.1, q.1)
        | inr q ↦ absurd (both_ways (has_pair from to b) (rw (p.0, q.0) refl) e)
      ]
      | inr p ↦ absurd (both_ways (has_pair from to b) (rw p.0 refl) e)
    ]

pub count_more : (from to : ℕ) (branches : List Branch) (b : Branch) → count_of from to (branches ++ b ∷ []) ≡ count_of from to branches + cond (has_pair from to b) 1 0
count_more from to branches b = sum_by_push (λ (x : Branch). cond (has_pair from to x) 1 0) branches b

one_more : (test : Bool) (n : ℕ) → test ≡ true → n + cond test 1 0 ≡ n + 1
one_more test n e = rw e refl

none_more : (test : Bool) (n : ℕ) → test ≡ false → n + cond test 1 0 ≡ n
none_more test n e = rw e (omega arith)

count_cons : (from to : ℕ) (b : Branch) (rest : List Branch) → count_of from to (b ∷ rest) ≡ count_of from to rest + cond (has_pair from to b) 1 0
count_cons from to b rest =
    let split : ◌≡◌ {A = ℕ} (count_of from to (b ∷ rest)) (cond (has_pair from to b) 1 0 + count_of from to rest) = sum_by-cons (λ (x : Branch). cond (has_pair from to x) 1 0) b rest in
    omega (arith, split)

not_back : (b x : Branch) → has_pair b.from b.to x ≡ false → (test : Bool) → has_pair x.from x.to b ≡ test → has_pair x.from x.to b ≡ false
not_back b x e false back = back
not_back b x e true back =
    let pair = pair_is x.from x.to b back in
    let there : has_pair b.from b.to x ≡ true = rw (eq-eqb x.from b.from (sym pair.0), eq-eqb x.to b.to (sym pair.1)) refl in
    absurd (both_ways (has_pair b.from b.to x) e there)

-- the branch's pair has taken the value n + 1, where it had n, and no other pair is changed
each_more : (branches : List Branch) (b : Branch) (old new : List ((ℕ × ℕ) × ℕ)) (n from to : ℕ)
    → count_in b.from b.to old ≡ n
    → lookup (is_at (pair_cmp (from, to))) new ≡ cond (is_at (pair_cmp (b.from, b.to)) (from, to)) (Some (n + 1)) (lookup (is_at (pair_cmp (from, to))) old)
    → Counts branches old → (test : Bool) → has_pair from to b ≡ test
    → count_in from to new ≡ count_of from to (branches ++ b ∷ [])
each_more branches b old new n from to was set so true e =
    let pair = pair_is from to b e in
    let same : count_of from to branches ≡ n = rw (← pair.0, ← pair.1) (sym (so.each b.from b.to) ∙ was) in
    let more : count_of from to branches + cond (has_pair from to b) 1 0 ≡ n + 1 = rw (e, same) refl in
    let now : cond (is_at (pair_cmp (b.from, b.to)) (from, to)) (Some (n + 1)) (lookup (is_at (pair_cmp (from, to))) old) ≡ Some (n + 1) = rw (tie b from to, e) refl in
    ap (λ (o : Option ℕ). unwrap_or o 0) (set ∙ now) ∙ sym (count_more from to branches b ∙ more)
each_more branches b old new n from to was set so false e =
    let more : count_of from to branches + cond (has_pair from to b) 1 0 ≡ count_of from to branches = rw e (omega arith) in
    let now : cond (is_at (pair_cmp (b.from, b.to)) (from, to)) (Some (n + 1)) (lookup (is_at (pair_cmp (from, to))) old) ≡ lookup (is_at (pair_cmp (from, to))) old = rw (tie b from to, e) refl in
    ap (λ (o : Option ℕ). unwrap_or o 0) (set ∙ now) ∙ so.each from to ∙ sym (count_more from to branches b ∙ more)

pair_none : pair_count [] ≡ 0
unfolding pair_count
pair_none = refl

pair_cons : (b : Branch) (rest : List Branch) → pair_count (b ∷ rest) ≡ (if nat_eq (count_of b.from b.to rest) 0 then 1 else 0) + pair_count rest
unfolding pair_count
pair_cons b rest = refl

abbrev pub new_if : ℕ → ℕ
new_if count = if nat_eq count 0 then 1 else 0

new_some : (n : ℕ) → new_if (n + 1) ≡ 0
new_some n = rw (ne_eqb (n + 1) 0 (λ e. omega (arith, e))) refl

-- of the same pair, only the newer of two is new; of others both are judged as before
pair_step : (b x : Branch) (rest : List Branch) (test : Bool) → has_pair b.from b.to x ≡ test
    → new_if (count_of b.from b.to (rest ++ x ∷ [])) + new_if (count_of x.from x.to rest)
    ≡ new_if (count_of b.from b.to rest) + new_if (count_of x.from x.to (b ∷ rest))
pair_step b x rest true e =
    let pair = pair_is b.from b.to x e in
    let first : count_of b.from b.to (rest ++ x ∷ []) ≡ count_of b.from b.to rest + 1 = count_more b.from b.to rest x ∙ one_more (has_pair b.from b.to x) (count_of b.from b.to rest) e in
    let back : has_pair x.from x.to b ≡ true = rw (eq-eqb b.from x.from (sym pair.0), eq-eqb b.to x.to (sym pair.1)) refl in
    let second : count_of x.from x.to (b ∷ rest) ≡ count_of x.from x.to rest + 1 = count_cons x.from x.to b rest ∙ one_more (has_pair x.from x.to b) (count_of x.from x.to rest) back in
    let same : count_of x.from x.to rest ≡ count_of b.from b.to rest = rw (pair.0, pair.1) refl in
    rw (first, second, new_some (count_of b.from b.to rest), new_some (count_of x.from x.to rest), same) (omega arith)
pair_step b x rest false e =
    let first : count_of b.from b.to (rest ++ x ∷ []) ≡ count_of b.from b.to rest = count_more b.from b.to rest x ∙ none_more (has_pair b.from b.to x) (count_of b.from b.to rest) e in
    let back : has_pair x.from x.to b ≡ false = not_back b x e (has_pair x.from x.to b) refl in
    let second : count_of x.from x.to (b ∷ rest) ≡ count_of x.from x.to rest = count_cons x.from x.to b rest ∙ none_more (has_pair x.from x.to b) (count_of x.from x.to rest) back in
    rw (first, second) refl

pub pair_more : (branches : List Branch) (x : Branch) → pair_count (branches ++ x ∷ []) ≡ pair_count branches + new_if (count_of x.from x.to branches)
pair_more [] x = pair_cons x [] ∙ rw pair_none refl
pair_more (b ∷ rest) x =
    let step = pair_step b x rest (has_pair b.from b.to x) refl in
    let whole = pair_cons b (rest ++ x ∷ []) in
    let before = pair_cons b rest in
    let more = pair_more rest x in
    omega (arith, step, whole, before, more)

pub counts_more : (branches : List Branch) (b : Branch) (old new : List ((ℕ × ℕ) × ℕ)) (n : ℕ)
    → count_in b.from b.to old ≡ n
    → ((q : ℕ × ℕ) → lookup (is_at (pair_cmp q)) new ≡ cond (is_at (pair_cmp (b.from, b.to)) q) (Some (n + 1)) (lookup (is_at (pair_cmp q)) old))
    → total new ≡ total old + 1 → length new ≡ length old + new_if n → Counts branches old → Counts (branches ++ b ∷ []) new
counts_more branches b old new n was set sum size so = record {
  each = λ from to. each_more branches b old new n from to was (set (from, to)) so (has_pair from to b) refl;
  all = omega (arith, sum, so.all, length-append branches (b ∷ []));
  pairs =
      let count : count_of b.from b.to branches ≡ n = sym (so.each b.from b.to) ∙ was in
      size ∙ ap (λ (m : ℕ). m + new_if n) so.pairs ∙ ap (λ (m : ℕ). pair_count branches + new_if m) (sym count) ∙ sym (pair_more branches b);
}

-- a count that is raised, and a new one
pub total_raised : (test : ℕ × ℕ → Bool) (old : List ((ℕ × ℕ) × ℕ)) (n : ℕ) → lookup test old ≡ Some n → total (set_value test old (n + 1)) ≡ total old + 1
total_raised test old n found = omega (arith, sum_by-set_value (λ (x : ℕ). x) test old n (n + 1) found)

pub total_new : (old : List ((ℕ × ℕ) × ℕ)) (k : ℕ × ℕ) → IsStrictlySortedBy pair_cmp (keys_of old) → lookup (is_at (pair_cmp k)) old ≡ None → total (insert_entry pair_cmp old k 1) ≡ total old + 1
total_new old k sorted absent =
    let sum = sum_by-insert_entry (λ (x : ℕ). x) pair_total old k 1 sorted in
    let none : unwrap_or (option_map (λ (x : ℕ). x) (lookup (is_at (pair_cmp k)) old)) 0 ≡ 0 = rw absent refl in
    omega (arith, sum, none)

-- no count is 0
pub found_some : (test : ℕ × ℕ → Bool) (old : List ((ℕ × ℕ) × ℕ)) (n : ℕ) → All (λ n. 0 < n) (values_of old) → lookup test old ≡ Some n → 0 < n
found_some test old n all found = subst (λ (o : Option ℕ). IfSome o (λ n. 0 < n)) found (IfSome-lookup_from_All (λ n. 0 < n) test old all)

pub new_zero : (n : ℕ) → 0 < n → new_if n ≡ 0
new_zero n some = rw (ne_eqb n 0 (λ e. omega (arith, some, e))) refl

-- no branch was counted
pub counts_none : Counts [] []
counts_none = record { each = λ from to. refl; all = refl; pairs = sym pair_none }
