-- What a transfer does to the records (RISC-V Control Transfer Records 1.0, "RAS Emulation Mode",
-- "Transfer Type Filtering", "External Traps" and "Freeze").
use Rattle.std.specs.Prelude.{true, false, ℕ, ◌≡◌, ◌%◌, Bool, cond, not, ◌&&◌, ◌||◌, Option, Some, None}
use Rattle.ctr_csrs.specs.declared.control_bit.ControlBit.TheVariants.{Rasemu}
use Rattle.ctr_csrs.specs.ControlFigure.{is_on}
use Rattle.ctr_rules.specs.declared.transfer.Act.{Act}
use Rattle.ctr_rules.specs.declared.transfer.Act.TheVariants.{Nothing, Push, Swap, Freeze}
use Rattle.ctr_rules.specs.declared.transfer.Record.{Record}
use Rattle.ctr_rules.specs.declared.transfer.Transfer.{Transfer}
use Rattle.xfer_class.specs.declared.types.XferType.{XferType}
use Rattle.xfer_class.specs.declared.types.XferType.TheVariants.{NotTaken, Taken}
use Rattle.ctr_rules.specs.Enabled.{enables, trap_enabled}
use Rattle.ctr_rules.specs.FilterBits.{filter_of, inhibits}
use Rattle.ctr_rules.specs.FreezeBits.{freezes}
use Rattle.ctr_rules.specs.RowTable.{Row, EmulatedCall, EmulatedReturn, EmulatedSwap, Within, TrapIn, ReturnOut, TrapOut, View, fits, act_of}

-- what the rows look at
abbrev pub view_of : Transfer → ℕ → ℕ → View
view_of t m vs = record {
  from = enables m vs t.from;
  to = enables m vs t.to;
  emulation = is_on (filter_of t m vs) Rasemu;
  kind = t.kind;
  let_in = not (inhibits (filter_of t m vs) t.kind);
  enabled = trap_enabled t.from t.to m vs;
}

-- whether a row holds: only where FROZEN is clear and the transfer doesn't set it
abbrev pub holds : Row → Transfer → ℕ → ℕ → Bool → Bool
holds row t m vs frozen = not frozen && not (freezes t m vs) && fits row (view_of t m vs)

-- no row holds
abbrev pub NoRow : Transfer → ℕ → ℕ → Bool → Type 0
NoRow t m vs frozen = (row : Row) → holds row t m vs frozen ≡ false

-- no two rows hold of one transfer
abbrev pub OneRow : Type 0
OneRow =
    (row other : Row) (t : Transfer) (m vs : ℕ) (frozen : Bool)
    → holds row t m vs frozen ≡ true
    → holds other t m vs frozen ≡ true
    → row ≡ other

-- the row that fits, or None
abbrev pub row_of : View → Option Row
row_of v =
    cond (fits EmulatedCall v) (Some EmulatedCall)
    (cond (fits EmulatedReturn v) (Some EmulatedReturn)
    (cond (fits EmulatedSwap v) (Some EmulatedSwap)
    (cond (fits Within v) (Some Within)
    (cond (fits TrapIn v) (Some TrapIn)
    (cond (fits ReturnOut v) (Some ReturnOut)
    (cond (fits TrapOut v) (Some TrapOut) None))))))

abbrev pub act_by : Option Row → Transfer → Act
act_by (Some row) t = act_of row t
act_by None t = Nothing

-- Nothing where FROZEN is set, else Freeze where the transfer sets it, else the act of the row that fits, if there is one
abbrev pub act_under : Transfer → ℕ → ℕ → Bool → Act
act_under t m vs frozen = cond frozen Nothing (cond (freezes t m vs) Freeze (act_by (row_of (view_of t m vs)) t))

-- the addresses that an act records are multiples of 2
abbrev pub IsEven : Act → Type 0
IsEven (Push r) = (r.source % 2 ≡ 0) × (r.target % 2 ≡ 0)
IsEven (Swap r) = (r.source % 2 ≡ 0) × (r.target % 2 ≡ 0)
IsEven _ = Unit {0}

-- a branch, taken or not
abbrev pub is_branch : XferType → Bool
is_branch NotTaken = true
is_branch Taken = true
is_branch _ = false

-- an act that records has the type of the transfer and its misprediction
abbrev pub RecordsItsOwn : Transfer → Act → Type 0
RecordsItsOwn t (Push r) = (r.kind ≡ t.kind) × (r.misp ≡ t.misp)
RecordsItsOwn t (Swap r) = (r.kind ≡ t.kind) × (r.misp ≡ t.misp)
RecordsItsOwn t _ = Unit {0}

-- what is recorded of a transfer: the address of each of its modes that is enabled, and 0 in the
-- place of the other's; one of the two is enabled
pub record IsOfModes (m vs : ℕ) (t : Transfer) (r : Record) : Type 0 where
  pub source : r.source ≡ cond (enables m vs t.from) t.source 0
  pub target : r.target ≡ cond (enables m vs t.to) t.target 0
  pub enabled : (enables m vs t.from || enables m vs t.to) ≡ true

abbrev pub RecordsByMode : ℕ → ℕ → Transfer → Act → Type 0
RecordsByMode m vs t (Push r) = IsOfModes m vs t r
RecordsByMode m vs t (Swap r) = IsOfModes m vs t r
RecordsByMode m vs t _ = Unit {0}

abbrev pub AddressesByMode : Type 0
AddressesByMode =
    (t : Transfer) (m vs : ℕ) (frozen : Bool) → RecordsByMode m vs t (act_under t m vs frozen)
