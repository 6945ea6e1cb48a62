use Rattle.std.proofs.Common.{◌≡◌, ◌<◌, ◌+◌, ℕ, List, length, Some, None, cond, refl, sym, ap, ◌∙◌, arith, subst, unwrap_or}
use Rattle.std.proofs.lemmas.Map.Views.{All-values-set_value, All-values-insert_entry}
use Rattle.std.specs.BTreeMap.{BTreeMap, is_at, btree_map_len, insert_entry}
use Rattle.std.specs.Map.{lookup}
use Rattle.std.specs.declared.option.Option.{Option}
use Rattle.ctr_report.specs.Report.{pair_cmp, count_in, total, Counts}
use Rattle.ctr_report.proofs.CountLemmas.{counts_more, new_if, new_zero, total_raised, total_new, found_some}
use Rattle.ctr_report.proofs.report.Report.add.Goals as goal

-- the count that was found is raised
pub invariant_of-self : goal.invariant_of-self
invariant_of-self c =
    let n = c.in-Some.count.now in
    let h = c.get_mut.follows.holds (n + 1) in
    let entries = c.self.inside.counts.entries in (
      h.4,
      rw h.0 (All-values-set_value (is_at (pair_cmp (c.args.branch.from, c.args.branch.to))) (λ n. 0 < n) entries (n + 1) c.self.invariant.1 (omega arith)),
      omega (arith, h.2, c.self.invariant.2),
    )

pub returns-in-Some-clause-total : goal.returns-in-Some-clause-total
returns-in-Some-clause-total c =
    let n = c.in-Some.count.now in
    let h = c.get_mut.follows.holds (n + 1) in
    let entries = c.self.inside.counts.entries in
    let found : lookup (is_at (pair_cmp (c.args.branch.from, c.args.branch.to))) entries ≡ Some n = sym c.in-Some.ensures.value in
    ap total h.0 ∙ total_raised (is_at (pair_cmp (c.args.branch.from, c.args.branch.to))) entries n found ∙ ap (λ (e : List ((ℕ × ℕ) × ℕ)). total e + 1) c.self.view_is

pub returns-in-Some-clause-counts : goal.returns-in-Some-clause-counts
returns-in-Some-clause-counts c = λ branches so.
    let n = c.in-Some.count.now in
    let h = c.get_mut.follows.holds (n + 1) in
    let entries = c.self.inside.counts.entries in
    let b = c.args.branch in
    let found : lookup (is_at (pair_cmp (b.from, b.to))) entries ≡ Some n = sym c.in-Some.ensures.value in
    let was : count_in b.from b.to entries ≡ n = ap (λ (o : Option ℕ). unwrap_or o 0) found in
    let sum : total (c.get_mut.follows.lender (n + 1)).entries ≡ total entries + 1 = ap total h.0 ∙ total_raised (is_at (pair_cmp (b.from, b.to))) entries n found in
    let size : btree_map_len (c.get_mut.follows.lender (n + 1)) ≡ length entries → length (c.get_mut.follows.lender (n + 1)).entries ≡ length entries + new_if n =
    λ e. omega (arith, e, new_zero n (found_some (is_at (pair_cmp (b.from, b.to))) entries n c.self.invariant.1 found)) in
    counts_more branches b entries (c.get_mut.follows.lender (n + 1)).entries n was (h.3 (rw found refl)).0 sum (size h.2)
    (subst (Counts branches) (sym c.self.view_is) so)

pub returns-in-Some-clause-pairs : goal.returns-in-Some-clause-pairs
returns-in-Some-clause-pairs c =
    let n = c.in-Some.count.now in
    let entries = c.self.inside.counts.entries in
    let b = c.args.branch in
    let found : lookup (is_at (pair_cmp (b.from, b.to))) entries ≡ Some n = sym c.in-Some.ensures.value in
    let some = found_some (is_at (pair_cmp (b.from, b.to))) entries n c.self.invariant.1 found in (
      λ e. absurd (cc e),
      λ p.
          let was : count_in b.from b.to entries ≡ n = ap (λ (o : Option ℕ). unwrap_or o 0) found in
          let none : count_in b.from b.to entries ≡ 0 = rw c.self.view_is p.0 in
          absurd (omega (arith, some, was, none)),
    )

-- a pair that isn't found has no count
not_known : (o : Option ℕ) (count : ℕ) → None ≡ o → unwrap_or o 0 ≡ count → 0 < count → ⊥
not_known o count absent is some =
    let none : unwrap_or o 0 ≡ 0 = ap (λ (x : Option ℕ). unwrap_or x 0) (sym absent) in
    omega (arith, some, is, none)

pub returns-then-len-ge-MAX_PAIRS-clause-known : goal.returns-then-len-ge-MAX_PAIRS-clause-known
returns-then-len-ge-MAX_PAIRS-clause-known c = λ some.
    let b = c.args.branch in
    let key : ℕ × ℕ = (b.from, b.to) in
    absurd (not_known (lookup (is_at (pair_cmp key)) c.self.inside.counts.entries) (count_in b.from b.to c.args.self.now)
    c.in_default.ensures.value (ap (count_in b.from b.to) c.self.view_is) some)

pub returns-in_default-insert-clause-known : goal.returns-in_default-insert-clause-known
returns-in_default-insert-clause-known c = λ some.
    let b = c.args.branch in
    let key : ℕ × ℕ = (b.from, b.to) in
    absurd (not_known (lookup (is_at (pair_cmp key)) c.self.inside.counts.entries) (count_in b.from b.to c.args.self.now)
    c.in_default.ensures.value (ap (count_in b.from b.to) c.self.view_is) some)

-- the pair is new
pub invariant_of-self-2 : goal.invariant_of-self-2
invariant_of-self-2 c =
    let e = c.in-Ok.ensures in
    let g = c.get_mut.follows.holds-at-none in
    let b = c.args.branch in
    let key : ℕ × ℕ = (b.from, b.to) in
    let absent : None ≡ lookup (is_at (pair_cmp key)) c.self.inside.counts.entries = c.in_default.ensures.value in
    let entries : c.insert.new.self.entries ≡ insert_entry pair_cmp c.self.inside.counts.entries key 1 =
    e.entries ∙ ap (λ (m : BTreeMap (ℕ × ℕ) ℕ). insert_entry pair_cmp m.entries key 1) g in
    let none : c.in-Ok.field-0 ≡ None = e.old ∙ ap (λ (m : BTreeMap (ℕ × ℕ) ℕ). lookup (is_at (pair_cmp key)) m.entries) g ∙ sym absent in
    let size = rw none at e.len in (
      e.ordered,
      rw entries (All-values-insert_entry pair_cmp key 1 (λ n. 0 < n) c.self.inside.counts.entries c.self.invariant.1 (omega arith)),
      omega (arith, size, c.if-len-ge-MAX_PAIRS.false, c.len.ensures.len),
    )

pub returns-clause-counts : goal.returns-clause-counts
returns-clause-counts c = λ branches so.
    let e = c.in-Ok.ensures in
    let g = c.get_mut.follows.holds-at-none in
    let b = c.args.branch in
    let key : ℕ × ℕ = (b.from, b.to) in
    let old = c.self.inside.counts.entries in
    let absent : None ≡ lookup (is_at (pair_cmp key)) old = c.in_default.ensures.value in
    let was : count_in b.from b.to old ≡ 0 = ap (λ (o : Option ℕ). unwrap_or o 0) (sym absent) in
    let entries : c.insert.new.self.entries ≡ insert_entry pair_cmp old key 1 =
    e.entries ∙ ap (λ (m : BTreeMap (ℕ × ℕ) ℕ). insert_entry pair_cmp m.entries key 1) g in
    let sum : total c.insert.new.self.entries ≡ total old + 1 = ap total entries ∙ total_new old key c.self.invariant.0 (sym absent) in
    let none : c.in-Ok.field-0 ≡ None = e.old ∙ ap (λ (m : BTreeMap (ℕ × ℕ) ℕ). lookup (is_at (pair_cmp key)) m.entries) g ∙ sym absent in
    counts_more branches b old c.insert.new.self.entries 0 was
    (λ q. e.updates.0 q ∙ ap (λ (m : BTreeMap (ℕ × ℕ) ℕ). cond (is_at (pair_cmp key) q) (Some 1) (lookup (is_at (pair_cmp q)) m.entries)) g)
    sum (rw none at e.len ∙ ap (λ (m : BTreeMap (ℕ × ℕ) ℕ). length m.entries + 1) g) (subst (Counts branches) (sym c.self.view_is) so)

pub returns-clause-total : goal.returns-clause-total
returns-clause-total c =
    let e = c.in-Ok.ensures in
    let g = c.get_mut.follows.holds-at-none in
    let b = c.args.branch in
    let key : ℕ × ℕ = (b.from, b.to) in
    let old = c.self.inside.counts.entries in
    let absent : None ≡ lookup (is_at (pair_cmp key)) old = c.in_default.ensures.value in
    let entries : c.insert.new.self.entries ≡ insert_entry pair_cmp old key 1 =
    e.entries ∙ ap (λ (m : BTreeMap (ℕ × ℕ) ℕ). insert_entry pair_cmp m.entries key 1) g in
    ap total entries ∙ total_new old key c.self.invariant.0 (sym absent) ∙ ap (λ (x : List ((ℕ × ℕ) × ℕ)). total x + 1) c.self.view_is
