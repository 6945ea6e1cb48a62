-- What is recorded of a transfer, as a table: rows of which at most one holds, in no order (RISC-V Control Transfer
-- Records 1.0, "RAS Emulation Mode", "Transfer Type Filtering" and "External Traps").
use Rattle.std.specs.Prelude.{ℕ, Bool, true, false, not, ◌&&◌}
use Rattle.ctr_rules.specs.declared.transfer.Act.{Act}
use Rattle.ctr_rules.specs.declared.transfer.Act.TheVariants as acts
use Rattle.ctr_rules.specs.declared.transfer.Record.{Record}
use Rattle.ctr_rules.specs.declared.transfer.Transfer.{Transfer}
use Rattle.xfer_class.specs.declared.types.XferType.{XferType}
use Rattle.xfer_class.specs.declared.types.XferType.TheVariants as kinds

-- the rows
pub data Row : Type 0 where
  EmulatedCall : Row
  EmulatedReturn : Row
  EmulatedSwap : Row
  Within : Row
  TrapIn : Row
  ReturnOut : Row
  TrapOut : Row

-- what a row looks at: whether the mode before and the mode after are enabled, whether return-stack emulation is on, the
-- transfer type, whether the filter lets it in, and whether the trap-enable bits of the two modes are all set
pub record View : Type 0 where
  pub from : Bool
  pub to : Bool
  pub emulation : Bool
  pub kind : XferType
  pub let_in : Bool
  pub enabled : Bool

abbrev pub is_call : XferType → Bool
is_call kinds.IndirectCall = true
is_call kinds.DirectCall = true
is_call _ = false

abbrev pub is_return : XferType → Bool
is_return kinds.Return = true
is_return _ = false

abbrev pub is_swap : XferType → Bool
is_swap kinds.Swap = true
is_swap _ = false

abbrev pub is_trap : XferType → Bool
is_trap kinds.Exception = true
is_trap kinds.Interrupt = true
is_trap _ = false

abbrev pub is_trap_return : XferType → Bool
is_trap_return kinds.TrapReturn = true
is_trap_return _ = false

abbrev pub is_any : XferType → Bool
is_any kind = true

-- what is recorded of a transfer with these addresses
abbrev pub record_of : Transfer → ℕ → ℕ → Record
record_of t source target = record { source = source; target = target; kind = t.kind; misp = t.misp }

-- what a row does. The address of a mode that isn't enabled is recorded as 0
abbrev pub pushes : Transfer → Act
pushes t = acts.Push (record_of t t.source t.target)

abbrev pub pushes_target : Transfer → Act
pushes_target t = acts.Push (record_of t 0 t.target)

abbrev pub pushes_source : Transfer → Act
pushes_source t = acts.Push (record_of t t.source 0)

abbrev pub pops : Transfer → Act
pops t = acts.Pop

abbrev pub swaps : Transfer → Act
swaps t = acts.Swap (record_of t t.source t.target)

-- what a row asks further
abbrev pub nothing_further : View → Bool
nothing_further v = true

abbrev pub not_inhibited : View → Bool
not_inhibited v = v.let_in

abbrev pub trap_bits_set : View → Bool
trap_bits_set v = v.enabled

-- a line of the table: whether it wants the mode before and the mode after enabled, and return-stack emulation on; its
-- transfer types; what it asks further; and what it does
pub record Line : Type 0 where
  pub from : Bool
  pub to : Bool
  pub emulation : Bool
  pub kinds : XferType → Bool
  pub further : View → Bool
  pub does : Transfer → Act

abbrev pub asks : Bool → Bool → Bool → (XferType → Bool) → (View → Bool) → (Transfer → Act) → Line
asks from to emulation kinds further does = record {
  from = from;
  to = to;
  emulation = emulation;
  kinds = kinds;
  further = further;
  does = does;
}

-- the table. From enabled, to enabled, emulation; the types; what is asked further; the act
abbrev pub line : Row → Line
line EmulatedCall = asks true true true is_call nothing_further pushes
line EmulatedReturn = asks true true true is_return nothing_further pops
line EmulatedSwap = asks true true true is_swap nothing_further swaps
line Within = asks true true false is_any not_inhibited pushes
line TrapIn = asks false true false is_trap not_inhibited pushes_target
line ReturnOut = asks true false false is_trap_return not_inhibited pushes_source
line TrapOut = asks true false false is_trap trap_bits_set pushes_source

-- two answers are the same
abbrev pub agrees : Bool → Bool → Bool
agrees true answer = answer
agrees false answer = not answer

-- whether a line holds
abbrev pub line_holds : Line → View → Bool
line_holds l v =
    agrees l.from v.from && agrees l.to v.to && agrees l.emulation v.emulation && l.kinds v.kind && l.further v

abbrev pub fits : Row → View → Bool
fits row v = line_holds (line row) v

abbrev pub act_of : Row → Transfer → Act
act_of row t = (line row).does t
