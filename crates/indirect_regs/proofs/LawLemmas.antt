-- The proofs of the laws of accesses.
use Rattle.std.proofs.Common.{ℕ, ◌≡◌, ◌≤◌, ◌<◌, nat_le, nat_lt, true, Option, Some, None, Result, Ok, Err, refl, ap}
use Rattle.std.proofs.lemmas.Bool.{and_from, le-leb, lt-ltb, cond-true}
use Rattle.ctr_buffer.specs.declared.slot.Part.{Part}
use Rattle.ctr_buffer.specs.declared.slot.Part.TheVariants as parts
use Rattle.ctr_buffer.specs.Entry.{part_of}
use Rattle.guest_modes.specs.declared.gating.CsrFault.{CsrFault}
use Rattle.guest_modes.specs.declared.registers.Priv.{Priv}
use Rattle.guest_modes.specs.Gate.{gate_answer}
use Rattle.indirect_regs.specs.declared.accessing.CsrUse.{CsrUse}
use Rattle.indirect_regs.specs.declared.accessing.CsrUse.TheVariants.{Read, Write}
use Rattle.indirect_regs.specs.declared.port.PortReg.{PortReg}
use Rattle.indirect_regs.specs.declared.port.PortReg.TheVariants.{Mctrctl, Vsctrctl, Depth, Status, Select, From, To, Kind}
use Rattle.indirect_regs.specs.Unit.{UnitState, after_any}
use Rattle.indirect_regs.specs.Ports.{names_entry, entry_named, read}
use Rattle.indirect_regs.specs.Table.{Row, row_of, part_read}
use Rattle.indirect_regs.specs.Access.{AccessResult, new_value, put_in, used, passed, is_write}
use Rattle.indirect_regs.specs.Laws.{MonitorReachesAsM, EventsMakeTheBuffer}

-- a select in the range names an entry
pub names : (select : ℕ) → (0x200 ≤ select) × (select < 0x300) → names_entry select ≡ true
names select h = and_from (nat_le 0x200 select) (nat_lt select 0x300) (le-leb 0x200 select h.0) (lt-ltb select 0x300 h.1)

-- a part of the entry that a select names is there
pub part_is_read : (u : UnitState) (part : Part) → names_entry u.select ≡ true → part_read u u.select part ≡ Some (part_of part (entry_named u.stack u.select))
part_is_read u part e = cond-true (names_entry u.select) (Some (part_of part (entry_named u.stack u.select))) None e

-- a register of an entry, by its row
pub entry_access : (reg : PortReg) (number : ℕ) (u : UnitState) (p : Priv) (value : ℕ) → (row_of number).reads u p ≡ Some (read reg u)
    → ((used (row_of number) u p Read ((row_of number).reads u p)).answer ≡ Ok (read reg u))
    × ((used (row_of number) u p (Write value) ((row_of number).reads u p)) ≡ put_in (row_of number) u p (read reg u) (Some value))
entry_access reg number u p value e =
    (ap (λ (o : Option ℕ). (used (row_of number) u p Read o).answer) e, ap (λ (o : Option ℕ). used (row_of number) u p (Write value) o) e)

pub monitor_reaches_as_m : MonitorReachesAsM
monitor_reaches_as_m Mctrctl u p value h = record { reads = refl; writes = refl; others = refl }
monitor_reaches_as_m Vsctrctl u p value h = record { reads = refl; writes = refl; others = refl }
monitor_reaches_as_m Depth u p value h = record { reads = refl; writes = refl; others = refl }
monitor_reaches_as_m Status u p value h = record { reads = refl; writes = refl; others = refl }
monitor_reaches_as_m Select u p value h = record { reads = refl; writes = refl; others = refl }
monitor_reaches_as_m From u p value h =
    let e = entry_access From 0x151 u p value (part_is_read u parts.Source (names u.select h)) in
    record { reads = e.0; writes = ap (λ (a : AccessResult). a.unit) e.1; others = ap (λ (a : AccessResult). a.registers) e.1 }
monitor_reaches_as_m To u p value h =
    let e = entry_access To 0x152 u p value (part_is_read u parts.Target (names u.select h)) in
    record { reads = e.0; writes = ap (λ (a : AccessResult). a.unit) e.1; others = ap (λ (a : AccessResult). a.registers) e.1 }
monitor_reaches_as_m Kind u p value h =
    let e = entry_access Kind 0x153 u p value (part_is_read u parts.Kind (names u.select h)) in
    record { reads = e.0; writes = ap (λ (a : AccessResult). a.unit) e.1; others = ap (λ (a : AccessResult). a.registers) e.1 }

-- the buffer after an access, by its answers one after another
pub put_makes : (row : Row) (u : UnitState) (p : Priv) (old : ℕ) (value : Option ℕ)
    → (put_in row u p old value).unit.stack ≡ after_any u.stack (put_in row u p old value).event
put_makes row u p old None = refl
put_makes row u p old (Some value) = refl

pub used_makes : (row : Row) (u : UnitState) (p : Priv) (op : CsrUse) (o : Option ℕ) → (used row u p op o).unit.stack ≡ after_any u.stack (used row u p op o).event
used_makes row u p op None = refl
used_makes row u p op (Some old) = put_makes row u p old (new_value op old)

pub passed_makes : (u : UnitState) (p : Priv) (op : CsrUse) (r : Result ℕ CsrFault) → (passed u p op r).unit.stack ≡ after_any u.stack (passed u p op r).event
passed_makes u p op (Err fault) = refl
passed_makes u p op (Ok number) = used_makes (row_of number) u p op ((row_of number).reads u p)

pub events_make_the_buffer : EventsMakeTheBuffer
events_make_the_buffer u p mode csr op = passed_makes u p op (gate_answer mode csr (is_write op))
