-- The registers of the control transfer unit, each as its reader finds it and with what a write of it does (RISC-V
-- Control Transfer Records 1.0, "CSRs" and "Entry Registers").
use Rattle.std.specs.Prelude.{◌≡◌, ℕ, ◌%◌, ◌<◌, ◌≤◌, Bool, ◌&&◌, cond, nat_eq, nat_lt, nat_le, Option, Some, None, bit_and}
use Rattle.ctr_csrs.specs.ControlFigure.{m_mask, s_mask}
use Rattle.ctr_csrs.specs.declared.depth.Depth.{Depth}
use Rattle.ctr_csrs.specs.Depths.{code_of, depth_at, entries_of}
use Rattle.ctr_csrs.specs.StatusFigure.{word_of, pointer_in, frozen_in}
use Rattle.ctr_buffer.specs.declared.event.Event.{Event}
use Rattle.ctr_buffer.specs.declared.event.Event.TheVariants.{Turn, SetDepth, Poke}
use Rattle.ctr_buffer.specs.declared.slot.Part.{Part}
use Rattle.ctr_buffer.specs.declared.slot.Part.TheVariants as parts
use Rattle.ctr_buffer.specs.Entry.{Entry, FitsPart, part_of}
use Rattle.ctr_buffer.specs.Stack.{Stack, size_of, entry_at}
use Rattle.indirect_regs.specs.declared.port.PortReg.{PortReg}
use Rattle.indirect_regs.specs.declared.port.PortReg.TheVariants.{Mctrctl, Vsctrctl, Depth as Depths, Status, Select, From, To, Kind}
use Rattle.indirect_regs.specs.Unit.{UnitState, after_any}

-- the selects that name an entry: 0x200 and the entry's number, the youngest being 0
abbrev pub names_entry : ℕ → Bool
names_entry select = nat_le 0x200 select && nat_lt select 0x300

-- the number of the entry that a select names
abbrev pub number_named : ℕ → ℕ
number_named select = select % 256

-- that entry, which is zero from the depth up
abbrev pub entry_named : Stack → ℕ → Entry
entry_named s select = entry_at s (number_named select)

-- what a part keeps of a value that is after_write to it
abbrev pub part_kept : Part → ℕ → ℕ
part_kept parts.Source value = value
part_kept parts.Target value = value
part_kept parts.Kind value = value % 16

-- what a register reads as
abbrev pub read : PortReg → UnitState → ℕ
read Mctrctl u = u.m
read Vsctrctl u = u.vs
read Depths u = code_of u.stack.depth
read Status u = word_of (record { wrptr = u.stack.pointer; frozen = u.frozen })
read Select u = u.select
read From u = part_of parts.Source (entry_named u.stack u.select)
read To u = part_of parts.Target (entry_named u.stack u.select)
read Kind u = part_of parts.Kind (entry_named u.stack u.select)

-- a depth is after_write: the present one, and a code that names none, change nothing
abbrev pub depth_written : Stack → Option Depth → Option Event
depth_written s None = None
depth_written s (Some depth) = cond (nat_eq (entries_of depth) (size_of s)) None (Some (SetDepth depth))

-- a part of the entry that a select names is after_write; entries from the depth up take nothing
abbrev pub part_written : Stack → ℕ → Part → ℕ → Option Event
part_written s select part value =
    cond (nat_lt (number_named select) (size_of s)) (Some (Poke (number_named select) part (part_kept part value))) None

-- the event of the record buffer that a write is, if it is one
abbrev pub event_of : PortReg → UnitState → ℕ → Option Event
event_of Mctrctl u value = None
event_of Vsctrctl u value = None
event_of Depths u value = depth_written u.stack (depth_at (value % 8))
event_of Status u value =
    let pointer = pointer_in value u.stack.depth in
    cond (nat_eq pointer u.stack.pointer) None (Some (Turn pointer))
event_of Select u value = None
event_of From u value = part_written u.stack u.select parts.Source value
event_of To u value = part_written u.stack u.select parts.Target value
event_of Kind u value = part_written u.stack u.select parts.Kind value

-- what a write changes besides
abbrev pub changed : PortReg → UnitState → ℕ → UnitState
changed Mctrctl u value = record u { m = bit_and value m_mask }
changed Vsctrctl u value = record u { vs = bit_and value s_mask }
changed Depths u value = u
changed Status u value = record u { frozen = frozen_in value }
changed Select u value = record u { select = value % 4096 }
changed From u value = u
changed To u value = u
changed Kind u value = u

-- the unit after a write of a register
abbrev pub after_write : PortReg → ℕ → UnitState → UnitState
after_write reg value u = record (changed reg u value) { stack = after_any u.stack (event_of reg u value) }

-- the registers of the selected entry want a select that names one
abbrev pub Selects : PortReg → UnitState → Type 0
Selects Mctrctl u = Unit {0}
Selects Vsctrctl u = Unit {0}
Selects Depths u = Unit {0}
Selects Status u = Unit {0}
Selects Select u = Unit {0}
Selects From u = (0x200 ≤ u.select) × (u.select < 0x300)
Selects To u = (0x200 ≤ u.select) × (u.select < 0x300)
Selects Kind u = (0x200 ≤ u.select) × (u.select < 0x300)

-- the values that a register can read as
abbrev pub Legal : PortReg → ℕ → Type 0
Legal Mctrctl value = bit_and value m_mask ≡ value
Legal Vsctrctl value = bit_and value s_mask ≡ value
Legal Depths value = value < 5
Legal Status value = word_of (record { wrptr = value % 256; frozen = frozen_in value }) ≡ value
Legal Select value = value < 4096
Legal From value = FitsPart parts.Source value
Legal To value = FitsPart parts.Target value
Legal Kind value = FitsPart parts.Kind value
