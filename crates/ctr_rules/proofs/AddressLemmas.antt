-- The addresses that are recorded, by the modes that are enabled: a row that fits asks for them.
use Rattle.std.proofs.Common.{◌≡◌, ℕ, Bool, true, false, cond, not, ◌&&◌, ◌||◌, Option, Some, None, refl, sym, ap}
use Rattle.std.proofs.lemmas.Bool.{and_parts}
use Rattle.ctr_rules.specs.Admitted.{act_by, act_under, row_of, view_of, RecordsByMode, AddressesByMode}
use Rattle.ctr_rules.specs.Enabled.{enables}
use Rattle.ctr_rules.specs.FreezeBits.{freezes}
use Rattle.ctr_rules.specs.RowTable.{Row, EmulatedCall, EmulatedReturn, EmulatedSwap, Within, TrapIn, ReturnOut, TrapOut, View, Line, agrees, line, fits, act_of}
use Rattle.ctr_rules.specs.declared.transfer.Act.{Act}
use Rattle.ctr_rules.specs.declared.transfer.Act.TheVariants.{Nothing, Push, Pop, Swap, Freeze}
use Rattle.ctr_rules.specs.declared.transfer.Record.{Record}
use Rattle.ctr_rules.specs.declared.transfer.Transfer.{Transfer}

-- the law of two answers, whether the mode before and the mode after are enabled
pub record IsOf (from to : Bool) (t : Transfer) (r : Record) : Type 0 where
  pub source : r.source ≡ cond from t.source 0
  pub target : r.target ≡ cond to t.target 0
  pub enabled : (from || to) ≡ true

abbrev pub Records : Bool → Bool → Transfer → Act → Type 0
Records from to t (Push r) = IsOf from to t r
Records from to t (Swap r) = IsOf from to t r
Records from to t _ = Unit {0}

-- what a line wants of the two modes
pub agreed : (a b : Bool) → agrees a b ≡ true → b ≡ a
agreed true true e = refl
agreed true false e = absurd (cc e)
agreed false true e = absurd (cc e)
agreed false false e = refl

pub of_both : (from to : Bool) (t : Transfer) (r : Record) → r.source ≡ t.source
    → r.target ≡ t.target → from ≡ true → to ≡ true → IsOf from to t r
of_both true true t r s g e f = record { source = s; target = g; enabled = refl }
of_both true false t r s g e f = absurd (cc f)
of_both false to t r s g e f = absurd (cc e)

pub of_target : (from to : Bool) (t : Transfer) (r : Record) → r.source ≡ 0 → r.target ≡ t.target
    → from ≡ false → to ≡ true → IsOf from to t r
of_target true to t r s g e f = absurd (cc e)
of_target false true t r s g e f = record { source = s; target = g; enabled = refl }
of_target false false t r s g e f = absurd (cc f)

pub of_source : (from to : Bool) (t : Transfer) (r : Record) → r.source ≡ t.source → r.target ≡ 0
    → from ≡ true → to ≡ false → IsOf from to t r
of_source false to t r s g e f = absurd (cc e)
of_source true true t r s g e f = absurd (cc f)
of_source true false t r s g e f = record { source = s; target = g; enabled = refl }

pub row_records : (row : Row) (from to : Bool) (t : Transfer) → from ≡ (line row).from
    → to ≡ (line row).to → Records from to t (act_of row t)
row_records EmulatedCall from to t e f = of_both from to t _ refl refl e f
row_records EmulatedReturn from to t e f = tt
row_records EmulatedSwap from to t e f = of_both from to t _ refl refl e f
row_records Within from to t e f = of_both from to t _ refl refl e f
row_records TrapIn from to t e f = of_target from to t _ refl refl e f
row_records ReturnOut from to t e f = of_source from to t _ refl refl e f
row_records TrapOut from to t e f = of_source from to t _ refl refl e f

pub fit_records : (row : Row) (v : View) (t : Transfer) → fits row v ≡ true
    → Records v.from v.to t (act_of row t)
fit_records row v t e =
    let l = line row in
    let from = agrees l.from v.from in
    let to = agrees l.to v.to in
    let emulation = agrees l.emulation v.emulation in
    let kinds = l.kinds v.kind in
    let four = and_parts (from && to && emulation && kinds) (l.further v) e in
    let three = and_parts (from && to && emulation) kinds four.0 in
    let two = and_parts (from && to) emulation three.0 in
    let one = and_parts from to two.0 in
    row_records row v.from v.to t (agreed l.from v.from one.0) (agreed l.to v.to one.1)

-- the row that is picked fits
abbrev pub OfRow : View → Transfer → Option Row → Type 0
OfRow v t o = Records v.from v.to t (act_by o t)

pub row_or : (row : Row) (v : View) (t : Transfer) (rest : Option Row) → OfRow v t rest
    → OfRow v t (cond (fits row v) (Some row) rest)
row_or row v t rest h = by_test (fits row v) (λ e. fit_records row v t e)
  where
    by_test : (b : Bool) → (b ≡ true → OfRow v t (Some row)) → OfRow v t (cond b (Some row) rest)
    by_test true fit = fit refl
    by_test false _ = h

pub picked_records : (v : View) (t : Transfer) → OfRow v t (row_of v)
picked_records v t =
    row_or EmulatedCall v t _
    (row_or EmulatedReturn v t _
    (row_or EmulatedSwap v t _
    (row_or Within v t _
    (row_or TrapIn v t _ (row_or ReturnOut v t _ (row_or TrapOut v t None tt))))))

pub as_law : (m vs : ℕ) (t : Transfer) (a : Act) → Records (enables m vs t.from) (enables m vs t.to) t a
    → RecordsByMode m vs t a
as_law m vs t Nothing h = tt
as_law m vs t (Push r) h = record { source = h.source; target = h.target; enabled = h.enabled }
as_law m vs t Pop h = tt
as_law m vs t (Swap r) h = record { source = h.source; target = h.target; enabled = h.enabled }
as_law m vs t Freeze h = tt

pub decided_records : (frozen freezing : Bool) (from to : Bool) (t : Transfer) (a : Act)
    → Records from to t a → Records from to t (cond frozen Nothing (cond freezing Freeze a))
decided_records true freezing from to t a h = tt
decided_records false true from to t a h = tt
decided_records false false from to t a h = h

pub addresses_by_mode : AddressesByMode
addresses_by_mode t m vs frozen =
    let v = view_of t m vs in
    as_law m vs t (act_under t m vs frozen)
    (decided_records frozen (freezes t m vs) v.from v.to t (act_by (row_of v) t)
    (picked_records v t))
