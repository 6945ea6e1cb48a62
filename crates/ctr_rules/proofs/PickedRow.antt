-- At most one row holds, and the function picks it.
use Rattle.std.proofs.Common.{◌≡◌, ◌≢◌, ℕ, ◌%◌, Bool, true, false, cond, not, ◌&&◌, Option, Some, None, refl, sym, ◌∙◌, ap}
use Rattle.ctr_rules.specs.Admitted.{view_of, holds, NoRow, row_of, act_by, act_under, IsEven, RecordsItsOwn}
use Rattle.ctr_rules.specs.FreezeBits.{freezes}
use Rattle.ctr_rules.specs.RowTable.{Row, EmulatedCall, EmulatedReturn, EmulatedSwap, Within, TrapIn, ReturnOut, TrapOut, View, fits, act_of}
use Rattle.ctr_rules.specs.declared.transfer.Act.{Act}
use Rattle.ctr_rules.specs.declared.transfer.Act.TheVariants.{Nothing, Freeze}
use Rattle.ctr_rules.specs.declared.transfer.Transfer.{Transfer}
use Rattle.xfer_class.specs.declared.types.XferType.{XferType}
use Rattle.xfer_class.specs.declared.types.XferType.TheVariants as kinds

abbrev pub view : Bool → Bool → Bool → XferType → Bool → Bool → View
view f g e k l x = record { from = f; to = g; emulation = e; kind = k; let_in = l; enabled = x }

pub row_that_fits : (r : Row) (f g e : Bool) (k : XferType) (l x : Bool) → fits r (view f g e k l x) ≡ true → row_of (view f g e k l x) ≡ Some r
row_that_fits EmulatedCall false g e k l x h = absurd (cc h)
row_that_fits EmulatedCall true false e k l x h = absurd (cc h)
row_that_fits EmulatedCall true true false k l x h = absurd (cc h)
row_that_fits EmulatedCall true true true kinds.Exception l x h = absurd (cc h)
row_that_fits EmulatedCall true true true kinds.Interrupt l x h = absurd (cc h)
row_that_fits EmulatedCall true true true kinds.TrapReturn l x h = absurd (cc h)
row_that_fits EmulatedCall true true true kinds.NotTaken l x h = absurd (cc h)
row_that_fits EmulatedCall true true true kinds.Taken l x h = absurd (cc h)
row_that_fits EmulatedCall true true true kinds.IndirectCall l x h = refl
row_that_fits EmulatedCall true true true kinds.DirectCall l x h = refl
row_that_fits EmulatedCall true true true kinds.IndirectJump l x h = absurd (cc h)
row_that_fits EmulatedCall true true true kinds.DirectJump l x h = absurd (cc h)
row_that_fits EmulatedCall true true true kinds.Swap l x h = absurd (cc h)
row_that_fits EmulatedCall true true true kinds.Return l x h = absurd (cc h)
row_that_fits EmulatedCall true true true kinds.IndirectLinkJump l x h = absurd (cc h)
row_that_fits EmulatedCall true true true kinds.DirectLinkJump l x h = absurd (cc h)
row_that_fits EmulatedReturn false g e k l x h = absurd (cc h)
row_that_fits EmulatedReturn true false e k l x h = absurd (cc h)
row_that_fits EmulatedReturn true true false k l x h = absurd (cc h)
row_that_fits EmulatedReturn true true true kinds.Exception l x h = absurd (cc h)
row_that_fits EmulatedReturn true true true kinds.Interrupt l x h = absurd (cc h)
row_that_fits EmulatedReturn true true true kinds.TrapReturn l x h = absurd (cc h)
row_that_fits EmulatedReturn true true true kinds.NotTaken l x h = absurd (cc h)
row_that_fits EmulatedReturn true true true kinds.Taken l x h = absurd (cc h)
row_that_fits EmulatedReturn true true true kinds.IndirectCall l x h = absurd (cc h)
row_that_fits EmulatedReturn true true true kinds.DirectCall l x h = absurd (cc h)
row_that_fits EmulatedReturn true true true kinds.IndirectJump l x h = absurd (cc h)
row_that_fits EmulatedReturn true true true kinds.DirectJump l x h = absurd (cc h)
row_that_fits EmulatedReturn true true true kinds.Swap l x h = absurd (cc h)
row_that_fits EmulatedReturn true true true kinds.Return l x h = refl
row_that_fits EmulatedReturn true true true kinds.IndirectLinkJump l x h = absurd (cc h)
row_that_fits EmulatedReturn true true true kinds.DirectLinkJump l x h = absurd (cc h)
row_that_fits EmulatedSwap false g e k l x h = absurd (cc h)
row_that_fits EmulatedSwap true false e k l x h = absurd (cc h)
row_that_fits EmulatedSwap true true false k l x h = absurd (cc h)
row_that_fits EmulatedSwap true true true kinds.Exception l x h = absurd (cc h)
row_that_fits EmulatedSwap true true true kinds.Interrupt l x h = absurd (cc h)
row_that_fits EmulatedSwap true true true kinds.TrapReturn l x h = absurd (cc h)
row_that_fits EmulatedSwap true true true kinds.NotTaken l x h = absurd (cc h)
row_that_fits EmulatedSwap true true true kinds.Taken l x h = absurd (cc h)
row_that_fits EmulatedSwap true true true kinds.IndirectCall l x h = absurd (cc h)
row_that_fits EmulatedSwap true true true kinds.DirectCall l x h = absurd (cc h)
row_that_fits EmulatedSwap true true true kinds.IndirectJump l x h = absurd (cc h)
row_that_fits EmulatedSwap true true true kinds.DirectJump l x h = absurd (cc h)
row_that_fits EmulatedSwap true true true kinds.Swap l x h = refl
row_that_fits EmulatedSwap true true true kinds.Return l x h = absurd (cc h)
row_that_fits EmulatedSwap true true true kinds.IndirectLinkJump l x h = absurd (cc h)
row_that_fits EmulatedSwap true true true kinds.DirectLinkJump l x h = absurd (cc h)
row_that_fits Within false g e k l x h = absurd (cc h)
row_that_fits Within true false e k l x h = absurd (cc h)
row_that_fits Within true true true k l x h = absurd (cc h)
row_that_fits Within true true false k true x h = refl
row_that_fits Within true true false k false x h = absurd (cc h)
row_that_fits TrapIn true g e k l x h = absurd (cc h)
row_that_fits TrapIn false false e k l x h = absurd (cc h)
row_that_fits TrapIn false true true k l x h = absurd (cc h)
row_that_fits TrapIn false true false kinds.Exception true x h = refl
row_that_fits TrapIn false true false kinds.Exception false x h = absurd (cc h)
row_that_fits TrapIn false true false kinds.Interrupt true x h = refl
row_that_fits TrapIn false true false kinds.Interrupt false x h = absurd (cc h)
row_that_fits TrapIn false true false kinds.TrapReturn l x h = absurd (cc h)
row_that_fits TrapIn false true false kinds.NotTaken l x h = absurd (cc h)
row_that_fits TrapIn false true false kinds.Taken l x h = absurd (cc h)
row_that_fits TrapIn false true false kinds.IndirectCall l x h = absurd (cc h)
row_that_fits TrapIn false true false kinds.DirectCall l x h = absurd (cc h)
row_that_fits TrapIn false true false kinds.IndirectJump l x h = absurd (cc h)
row_that_fits TrapIn false true false kinds.DirectJump l x h = absurd (cc h)
row_that_fits TrapIn false true false kinds.Swap l x h = absurd (cc h)
row_that_fits TrapIn false true false kinds.Return l x h = absurd (cc h)
row_that_fits TrapIn false true false kinds.IndirectLinkJump l x h = absurd (cc h)
row_that_fits TrapIn false true false kinds.DirectLinkJump l x h = absurd (cc h)
row_that_fits ReturnOut false g e k l x h = absurd (cc h)
row_that_fits ReturnOut true true e k l x h = absurd (cc h)
row_that_fits ReturnOut true false true k l x h = absurd (cc h)
row_that_fits ReturnOut true false false kinds.Exception l x h = absurd (cc h)
row_that_fits ReturnOut true false false kinds.Interrupt l x h = absurd (cc h)
row_that_fits ReturnOut true false false kinds.TrapReturn true x h = refl
row_that_fits ReturnOut true false false kinds.TrapReturn false x h = absurd (cc h)
row_that_fits ReturnOut true false false kinds.NotTaken l x h = absurd (cc h)
row_that_fits ReturnOut true false false kinds.Taken l x h = absurd (cc h)
row_that_fits ReturnOut true false false kinds.IndirectCall l x h = absurd (cc h)
row_that_fits ReturnOut true false false kinds.DirectCall l x h = absurd (cc h)
row_that_fits ReturnOut true false false kinds.IndirectJump l x h = absurd (cc h)
row_that_fits ReturnOut true false false kinds.DirectJump l x h = absurd (cc h)
row_that_fits ReturnOut true false false kinds.Swap l x h = absurd (cc h)
row_that_fits ReturnOut true false false kinds.Return l x h = absurd (cc h)
row_that_fits ReturnOut true false false kinds.IndirectLinkJump l x h = absurd (cc h)
row_that_fits ReturnOut true false false kinds.DirectLinkJump l x h = absurd (cc h)
row_that_fits TrapOut false g e k l x h = absurd (cc h)
row_that_fits TrapOut true true e k l x h = absurd (cc h)
row_that_fits TrapOut true false true k l x h = absurd (cc h)
row_that_fits TrapOut true false false kinds.Exception l true h = refl
row_that_fits TrapOut true false false kinds.Exception l false h = absurd (cc h)
row_that_fits TrapOut true false false kinds.Interrupt l true h = refl
row_that_fits TrapOut true false false kinds.Interrupt l false h = absurd (cc h)
row_that_fits TrapOut true false false kinds.TrapReturn l x h = absurd (cc h)
row_that_fits TrapOut true false false kinds.NotTaken l x h = absurd (cc h)
row_that_fits TrapOut true false false kinds.Taken l x h = absurd (cc h)
row_that_fits TrapOut true false false kinds.IndirectCall l x h = absurd (cc h)
row_that_fits TrapOut true false false kinds.DirectCall l x h = absurd (cc h)
row_that_fits TrapOut true false false kinds.IndirectJump l x h = absurd (cc h)
row_that_fits TrapOut true false false kinds.DirectJump l x h = absurd (cc h)
row_that_fits TrapOut true false false kinds.Swap l x h = absurd (cc h)
row_that_fits TrapOut true false false kinds.Return l x h = absurd (cc h)
row_that_fits TrapOut true false false kinds.IndirectLinkJump l x h = absurd (cc h)
row_that_fits TrapOut true false false kinds.DirectLinkJump l x h = absurd (cc h)

pub fitting : (r : Row) (v : View) → fits r v ≡ true → row_of v ≡ Some r
fitting r v h = row_that_fits r v.from v.to v.emulation v.kind v.let_in v.enabled h

-- no row fits
pub none_of_seven : (a b c d e f g : Bool) → a ≡ false → b ≡ false → c ≡ false → d ≡ false → e ≡ false → f ≡ false → g ≡ false
    → cond a (Some EmulatedCall) (cond b (Some EmulatedReturn) (cond c (Some EmulatedSwap) (cond d (Some Within) (cond e (Some TrapIn) (cond f (Some ReturnOut) (cond g (Some TrapOut) None)))))) ≡ None
none_of_seven a b c d e f g p q r s t u w = rw (p, q, r, s, t, u, w) refl

pub none_fits : (v : View) → ((r : Row) → fits r v ≡ false) → row_of v ≡ None
none_fits v h =
    none_of_seven (fits EmulatedCall v) (fits EmulatedReturn v) (fits EmulatedSwap v) (fits Within v) (fits TrapIn v) (fits ReturnOut v) (fits TrapOut v)
    (h EmulatedCall) (h EmulatedReturn) (h EmulatedSwap) (h Within) (h TrapIn) (h ReturnOut) (h TrapOut)

-- what is known where `not a && not b && c` holds
pub third : (a b c : Bool) → (not a && not b && c) ≡ true → c ≡ true
third false false c h = h
third false true c h = absurd (cc h)
third true b c h = absurd (cc h)

-- the row in an option, or another one
abbrev pub row_in : Row → Option Row → Row
row_in other (Some r) = r
row_in other None = other

pub one_row : (r s : Row) (t : Transfer) (m vs : ℕ) (frozen : Bool) → holds r t m vs frozen ≡ true → holds s t m vs frozen ≡ true → r ≡ s
one_row r s t m vs frozen p q =
    let v = view_of t m vs in
    let first : row_of v ≡ Some r = fitting r v (third frozen (freezes t m vs) (fits r v) p) in
    let second : row_of v ≡ Some s = fitting s v (third frozen (freezes t m vs) (fits s v) q) in
    ap (λ (o : Option Row). row_in r o) (sym first ∙ second)

-- the act of a row that holds
abbrev pub decided : Bool → Bool → Option Row → Transfer → Act
decided frozen freezing row t = cond frozen Nothing (cond freezing Freeze (act_by row t))

pub decided_row : (a b c : Bool) (o : Option Row) (r : Row) (t : Transfer) → (not a && not b && c) ≡ true → o ≡ Some r → decided a b o t ≡ act_of r t
decided_row false false c o r t h e = ap (λ (p : Option Row). act_by p t) e
decided_row false true c o r t h e = absurd (cc h)
decided_row true b c o r t h e = absurd (cc h)

pub row_decides : (t : Transfer) (m vs : ℕ) (frozen : Bool) (r : Row) → holds r t m vs frozen ≡ true → act_under t m vs frozen ≡ act_of r t
row_decides t m vs frozen r h =
    let v = view_of t m vs in
    decided_row frozen (freezes t m vs) (fits r v) (row_of v) r t h (fitting r v (third frozen (freezes t m vs) (fits r v) h))

pub decided_nothing : (a b : Bool) (o : Option Row) (t : Transfer) → ((not a && not b) ≡ true → o ≡ None) → decided a b o t ≢ Freeze → decided a b o t ≡ Nothing
decided_nothing true b o t none other = refl
decided_nothing false true o t none other = absurd (other refl)
decided_nothing false false o t none other = ap (λ (p : Option Row). act_by p t) (none refl)

pub nothing_else : (frozen : Bool) (t : Transfer) (m vs : ℕ) → NoRow t m vs frozen → act_under t m vs frozen ≢ Freeze → act_under t m vs frozen ≡ Nothing
nothing_else frozen t m vs none other =
    let v = view_of t m vs in
    decided_nothing frozen (freezes t m vs) (row_of v) t
    (λ calm. none_fits v (λ row. rw calm at (none row)))
    other

-- only a freeze freezes
pub rows_never_freeze : (o : Option Row) (t : Transfer) → act_by o t ≡ Freeze → ⊥
rows_never_freeze None t e = cc e
rows_never_freeze (Some EmulatedCall) t e = cc e
rows_never_freeze (Some EmulatedReturn) t e = cc e
rows_never_freeze (Some EmulatedSwap) t e = cc e
rows_never_freeze (Some Within) t e = cc e
rows_never_freeze (Some TrapIn) t e = cc e
rows_never_freeze (Some ReturnOut) t e = cc e
rows_never_freeze (Some TrapOut) t e = cc e

pub freeze_only : (a b : Bool) (o : Option Row) (t : Transfer) → decided a b o t ≡ Freeze → (a ≡ false) × (b ≡ true)
freeze_only true b o t e = absurd (cc e)
freeze_only false true o t e = (refl, refl)
freeze_only false false o t e = absurd (rows_never_freeze o t e)

pub freeze_where : (a b : Bool) (o : Option Row) (t : Transfer) → (a ≡ false) × (b ≡ true) → decided a b o t ≡ Freeze
freeze_where true b o t h = absurd (cc h.0)
freeze_where false true o t h = refl
freeze_where false false o t h = absurd (cc h.1)

-- what is recorded are the transfer's own addresses, or 0
pub row_is_even : (o : Option Row) (t : Transfer) → t.source % 2 ≡ 0 → t.target % 2 ≡ 0 → IsEven (act_by o t)
row_is_even None t p q = tt
row_is_even (Some EmulatedCall) t p q = (p, q)
row_is_even (Some EmulatedReturn) t p q = tt
row_is_even (Some EmulatedSwap) t p q = (p, q)
row_is_even (Some Within) t p q = (p, q)
row_is_even (Some TrapIn) t p q = (refl, q)
row_is_even (Some ReturnOut) t p q = (p, refl)
row_is_even (Some TrapOut) t p q = (p, refl)

pub decided_is_even : (a b : Bool) (o : Option Row) (t : Transfer) → t.source % 2 ≡ 0 → t.target % 2 ≡ 0 → IsEven (decided a b o t)
decided_is_even true b o t p q = tt
decided_is_even false true o t p q = tt
decided_is_even false false o t p q = row_is_even o t p q

-- and its own type and misprediction
pub row_is_own : (o : Option Row) (t : Transfer) → RecordsItsOwn t (act_by o t)
row_is_own None t = tt
row_is_own (Some EmulatedCall) t = (refl, refl)
row_is_own (Some EmulatedReturn) t = tt
row_is_own (Some EmulatedSwap) t = (refl, refl)
row_is_own (Some Within) t = (refl, refl)
row_is_own (Some TrapIn) t = (refl, refl)
row_is_own (Some ReturnOut) t = (refl, refl)
row_is_own (Some TrapOut) t = (refl, refl)

pub decided_is_own : (a b : Bool) (o : Option Row) (t : Transfer) → RecordsItsOwn t (decided a b o t)
decided_is_own true b o t = tt
decided_is_own false true o t = tt
decided_is_own false false o t = row_is_own o t
