-- FROZEN after an access, by the row of the register that it reaches.
use Rattle.std.proofs.Common.{ℕ, ◌≡◌, ◌⊎◌, inl, inr, true, nat_eq, List, [], ◌∷◌, Option, Some, None, Result, Ok, Err, refl, sym, ◌∙◌, ap}
use Rattle.std.proofs.lemmas.Bool.{cond_both, eqb-true}
use Rattle.guest_modes.specs.declared.gating.CsrFault.{CsrFault}
use Rattle.guest_modes.specs.declared.registers.Priv.{Priv}
use Rattle.guest_modes.specs.Gate.{gate_answer}
use Rattle.guest_modes.specs.Numbers.{is_register}
use Rattle.guest_modes.specs.RowFacts.{Each, done, ◌⊕◌}
use Rattle.indirect_regs.specs.declared.accessing.CsrUse.{CsrUse}
use Rattle.indirect_regs.specs.declared.accessing.CsrUse.TheVariants.{Read, Write, Set, Clear}
use Rattle.indirect_regs.specs.Unit.{UnitState}
use Rattle.indirect_regs.specs.Table.{Row, kept, no_register, transfer_rows, row_in, row_of}
use Rattle.indirect_regs.specs.Access.{is_write, new_value, put_in, used, passed}
use Rattle.indirect_regs.specs.Laws.{FrozenChangesByStatus}

abbrev pub Stays : Row → Type 0
Stays r = (u : UnitState) (v : ℕ) → (r.unit u v).frozen ≡ u.frozen

-- a row leaves FROZEN, or is that of sctrstatus
abbrev pub StaysOrIs : ℕ → Row → Type 0
StaysOrIs number r = Stays r ⊎ (number ≡ 0x14F)

abbrev pub RowStays : Row → Type 0
RowStays r = StaysOrIs r.number r

pub transfer_rows_stay : Each RowStays transfer_rows
transfer_rows_stay =
    inl (λ u v. refl)
    ⊕ inl (λ u v. refl)
    ⊕ inl (λ u v. refl)
    ⊕ inr refl
    ⊕ inl (λ u v. refl)
    ⊕ inl (λ u v. refl)
    ⊕ inl (λ u v. refl)
    ⊕ inl (λ u v. refl)
    ⊕ inl (λ u v. refl)
    ⊕ inl (λ u v. refl)
    ⊕ inl (λ u v. refl)
    ⊕ inl (λ u v. refl)
    ⊕ inl (λ u v. refl)
    ⊕ inl (λ u v. refl)
    ⊕ inl (λ u v. refl)
    ⊕ inl (λ u v. refl)
    ⊕ inl (λ u v. refl)
    ⊕ inl (λ u v. refl)
    ⊕ inl (λ u v. refl)
    ⊕ done

pub renumbered : (r : Row) (number : ℕ) → nat_eq r.number number ≡ true → RowStays r
    → StaysOrIs number r
renumbered r number e (inl h) = inl h
renumbered r number e (inr is) = inr (sym (eqb-true r.number number e) ∙ is)

pub found_stays : (rs : List Row) (number : ℕ) → Each RowStays rs
    → StaysOrIs number (row_in rs number)
found_stays [] number done = inl (λ u v. refl)
found_stays (r ∷ rs) number (here ⊕ later) =
    cond_both (nat_eq r.number number) r (row_in rs number) (StaysOrIs number)
    (λ e. renumbered r number e here) (λ e. found_stays rs number later)

pub row_stays : (number : ℕ) → StaysOrIs number (row_of number)
row_stays number =
    cond_both (is_register number) (kept number) (row_in transfer_rows number) (StaysOrIs number)
    (λ e. inl (λ u v. refl)) (λ e. found_stays transfer_rows number transfer_rows_stay)

-- what a row leaves, a use of its register leaves
pub put_stays : (row : Row) (u : UnitState) (p : Priv) (old : ℕ) (value : Option ℕ) → Stays row
    → (put_in row u p old value).unit.frozen ≡ u.frozen
put_stays row u p old None h = refl
put_stays row u p old (Some v) h = h u v

pub used_stays : (row : Row) (u : UnitState) (p : Priv) (op : CsrUse) (o : Option ℕ) → Stays row
    → (used row u p op o).unit.frozen ≡ u.frozen
used_stays row u p op None h = refl
used_stays row u p op (Some old) h = put_stays row u p old (new_value op old) h

-- and so does a read
pub read_stays : (row : Row) (u : UnitState) (p : Priv) (o : Option ℕ)
    → (used row u p Read o).unit.frozen ≡ u.frozen
read_stays row u p None = refl
read_stays row u p (Some old) = refl

pub passed_read : (u : UnitState) (p : Priv) (r : Result ℕ CsrFault)
    → (passed u p Read r).unit.frozen ≡ u.frozen
passed_read u p (Err fault) = refl
passed_read u p (Ok number) = read_stays (row_of number) u p ((row_of number).reads u p)

pub passed_stays : (u : UnitState) (p : Priv) (op : CsrUse) (r : Result ℕ CsrFault)
    → is_write op ≡ true
    → ((passed u p op r).unit.frozen ≡ u.frozen) ⊎ ((r ≡ Ok 0x14F) × (is_write op ≡ true))
passed_stays u p op (Err fault) writes = inl refl
passed_stays u p op (Ok number) writes = elim (row_stays number) [
  | inl h ↦ inl (used_stays (row_of number) u p op ((row_of number).reads u p) h)
  | inr is ↦ inr (ap (λ (n : ℕ). Ok n) is, writes)
]

pub frozen_changes_by_status : FrozenChangesByStatus
frozen_changes_by_status u p mode csr Read = inl (passed_read u p (gate_answer mode csr (is_write Read)))
frozen_changes_by_status u p mode csr (Write v) =
    passed_stays u p (Write v) (gate_answer mode csr (is_write (Write v))) refl
frozen_changes_by_status u p mode csr (Set v) =
    passed_stays u p (Set v) (gate_answer mode csr (is_write (Set v))) refl
frozen_changes_by_status u p mode csr (Clear v) =
    passed_stays u p (Clear v) (gate_answer mode csr (is_write (Clear v))) refl
