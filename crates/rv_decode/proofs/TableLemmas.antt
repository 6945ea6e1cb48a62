-- The rows of the table exclude each other, so the first row that has a word is the only one.
use Rattle.std.proofs.Common.{ℕ, zero, suc, ◌≡◌, ◌↔◌, List, [], ◌∷◌, Bool, true, false, nat_eq, ◌&&◌, ◌||◌, not, Option, None, Some, refl, sym, ◌∙◌, ap, inl, inr}
use Rattle.std.proofs.lemmas.Bool.{eqb-true, eqb-false, eq-eqb, not-true, and_parts, and_from, or_cases, cases_Bool, cond-true, cond-false, both_ways}
use Rattle.std.proofs.lemmas.Option.{none-some, same_Some}
use Rattle.ctr_bits.specs.Field.{field_of}
use Rattle.rv_decode.specs.declared.instruction.Instr.{Instr}
use Rattle.rv_decode.specs.Table.{Test, Rule, table}
use Rattle.rv_decode.specs.Rows.{Selects, RowIn, Row, RowAt, passes, first_row, instruction_of}
use Rattle.rv_decode.specs.Laws.{OneRow, OneInstr}

pub passes_selects : (ts : List Test) (w : ℕ) → passes ts w ≡ true → Selects ts w
passes_selects [] w e = tt
passes_selects (t ∷ ts) w e =
    let parts = and_parts (nat_eq (field_of t.lo t.len w) t.value) (passes ts w) e in
    (eqb-true (field_of t.lo t.len w) t.value parts.0, passes_selects ts w parts.1)

pub selects_passes : (ts : List Test) (w : ℕ) → Selects ts w → passes ts w ≡ true
selects_passes [] w s = refl
selects_passes (t ∷ ts) w s =
    and_from (nat_eq (field_of t.lo t.len w) t.value) (passes ts w) (eq-eqb (field_of t.lo t.len w) t.value s.0) (selects_passes ts w s.1)

-- two tests ask one field for two values
abbrev pub differ : Test → Test → Bool
differ t u = nat_eq t.lo u.lo && (nat_eq t.len u.len && not (nat_eq t.value u.value))

abbrev pub differ_some : Test → List Test → Bool
differ_some t [] = false
differ_some t (u ∷ us) = differ t u || differ_some t us

abbrev pub clash : List Test → List Test → Bool
clash [] us = false
clash (t ∷ ts) us = differ_some t us || clash ts us

abbrev pub clash_all : List Test → List Rule → Bool
clash_all ts [] = true
clash_all ts (r ∷ rs) = clash ts r.tests && clash_all ts rs

-- each row clashes with every later one
abbrev pub apart : List Rule → Bool
apart [] = true
apart (r ∷ rs) = clash_all r.tests rs && apart rs

pub table_apart : apart table ≡ true
table_apart = refl

pub differ_no : (t u : Test) (w : ℕ) → differ t u ≡ true → field_of t.lo t.len w ≡ t.value → field_of u.lo u.len w ≡ u.value → ⊥
differ_no t u w e p q =
    let first = and_parts (nat_eq t.lo u.lo) (nat_eq t.len u.len && not (nat_eq t.value u.value)) e in
    let rest = and_parts (nat_eq t.len u.len) (not (nat_eq t.value u.value)) first.1 in
    let lo = eqb-true t.lo u.lo first.0 in
    let len = eqb-true t.len u.len rest.0 in
    eqb-false t.value u.value (not-true (nat_eq t.value u.value) rest.1)
    (sym p ∙ ap (λ (k : ℕ). field_of k t.len w) lo ∙ ap (λ (k : ℕ). field_of u.lo k w) len ∙ q)

pub differ_some_no : (t : Test) (us : List Test) (w : ℕ) → differ_some t us ≡ true → field_of t.lo t.len w ≡ t.value → Selects us w → ⊥
differ_some_no t [] w e p s = both_ways false refl e
differ_some_no t (u ∷ us) w e p s = elim (or_cases (differ t u) (differ_some t us) e) [
  | inl here ↦ differ_no t u w here p s.0
  | inr later ↦ differ_some_no t us w later p s.1
]

pub clash_no : (ts us : List Test) (w : ℕ) → clash ts us ≡ true → Selects ts w → Selects us w → ⊥
clash_no [] us w e s q = both_ways false refl e
clash_no (t ∷ ts) us w e s q = elim (or_cases (differ_some t us) (clash ts us) e) [
  | inl here ↦ differ_some_no t us w here s.0 q
  | inr later ↦ clash_no ts us w later s.1 q
]

pub no_later_row : (ts : List Test) (rs : List Rule) (w : ℕ) (i : Instr) → clash_all ts rs ≡ true → Selects ts w → RowIn rs w i → ⊥
no_later_row ts [] w i e s q = q
no_later_row ts (r ∷ rs) w i e s q =
    let parts = and_parts (clash ts r.tests) (clash_all ts rs) e in
    elim q [
      | inl here ↦ clash_no ts r.tests w parts.0 s here.0
      | inr later ↦ no_later_row ts rs w i parts.1 s later
    ]

pub no_later_place : (ts : List Test) (rs : List Rule) (w place : ℕ) → clash_all ts rs ≡ true → Selects ts w → RowAt rs place w → ⊥
no_later_place ts [] w place e s q = q
no_later_place ts (r ∷ rs) w zero e s q = clash_no ts r.tests w (and_parts (clash ts r.tests) (clash_all ts rs) e).0 s q
no_later_place ts (r ∷ rs) w (suc place) e s q = no_later_place ts rs w place (and_parts (clash ts r.tests) (clash_all ts rs) e).1 s q

pub one_place : (rs : List Rule) (w one other : ℕ) → apart rs ≡ true → RowAt rs one w → RowAt rs other w → one ≡ other
one_place [] w one other e p q = absurd p
one_place (r ∷ rs) w zero zero e p q = refl
one_place (r ∷ rs) w zero (suc other) e p q = absurd (no_later_place r.tests rs w other (and_parts (clash_all r.tests rs) (apart rs) e).0 p q)
one_place (r ∷ rs) w (suc one) zero e p q = absurd (no_later_place r.tests rs w one (and_parts (clash_all r.tests rs) (apart rs) e).0 q p)
one_place (r ∷ rs) w (suc one) (suc other) e p q = ap (λ (k : ℕ). suc k) (one_place rs w one other (and_parts (clash_all r.tests rs) (apart rs) e).1 p q)

pub row_is_first : (rs : List Rule) (w : ℕ) (i : Instr) → apart rs ≡ true → RowIn rs w i → first_row rs w ≡ Some i
row_is_first [] w i e q = absurd q
row_is_first (r ∷ rs) w i e q =
    let parts = and_parts (clash_all r.tests rs) (apart rs) e in
    elim q [
      | inl here ↦ cond-true (passes r.tests w) (Some (r.gives w)) (first_row rs w) (selects_passes r.tests w here.0) ∙ ap (λ (j : Instr). Some j) (sym here.1)
      | inr later ↦ elim (cases_Bool (passes r.tests w)) [
        | inl p ↦ absurd (no_later_row r.tests rs w i parts.0 (passes_selects r.tests w p) later)
        | inr p ↦ cond-false (passes r.tests w) (Some (r.gives w)) (first_row rs w) p ∙ row_is_first rs w i parts.1 later
      ]
    ]

pub first_is_row : (rs : List Rule) (w : ℕ) (i : Instr) → first_row rs w ≡ Some i → RowIn rs w i
first_is_row [] w i e = absurd (none-some i e)
first_is_row (r ∷ rs) w i e = elim (cases_Bool (passes r.tests w)) [
  | inl p ↦ inl (
    passes_selects r.tests w p,
    same_Some i (r.gives w) (sym e ∙ cond-true (passes r.tests w) (Some (r.gives w)) (first_row rs w) p),
  )
  | inr p ↦ inr (first_is_row rs w i (sym (cond-false (passes r.tests w) (Some (r.gives w)) (first_row rs w) p) ∙ e))
]

pub row_decoded : (w : ℕ) (i : Instr) → Row w i → instruction_of w ≡ Some i
unfolding Row instruction_of
row_decoded w i q = row_is_first table w i table_apart q

pub decoded_row : (w : ℕ) (i : Instr) → instruction_of w ≡ Some i → Row w i
unfolding Row instruction_of
decoded_row w i e = first_is_row table w i e

pub found_some : (w : ℕ) (found : Option Instr) → found ≡ instruction_of w → (i : Instr) → (found ≡ Some i) ↔ Row w i
found_some w found e i = (λ p. decoded_row w i (sym e ∙ p), λ q. e ∙ row_decoded w i q)

pub no_row : (w : ℕ) (found : Option Instr) → found ≡ instruction_of w → ((i : Instr) → Row w i → ⊥) → found ≡ None
no_row w None e none = refl
no_row w (Some i) e none = absurd (none i (decoded_row w i (sym e)))

pub found_none : (w : ℕ) (found : Option Instr) → found ≡ instruction_of w → (found ≡ None) ↔ ((i : Instr) → Row w i → ⊥)
found_none w found e = (λ p. λ i q. none-some i (sym p ∙ e ∙ row_decoded w i q), λ none. no_row w found e none)

pub one_row : OneRow
one_row w one other p q = one_place table w one other table_apart p q

pub one_instr : OneInstr
one_instr w one other p q = same_Some one other (sym (row_decoded w one p) ∙ row_decoded w other q)
