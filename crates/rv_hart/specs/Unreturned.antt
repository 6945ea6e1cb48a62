-- What the records of a lone run show: the transfers that its history leaves, where its software
-- wrote neither the pointer nor an entry since the buffer was emptied (RISC-V Control Transfer
-- Records 1.0, "RAS Emulation Mode" and "Entry Registers").
use Rattle.std.specs.Prelude.{ℕ, ◌↔◌, List}
use Rattle.ctr_rules.specs.declared.transfer.Record.{Record}
use Rattle.ctr_buffer.specs.declared.event.Event.{Event}
use Rattle.ctr_buffer.specs.Entry.{valid_entries}
use Rattle.ctr_buffer.specs.Stack.{Stack}
use Rattle.ctr_buffer.specs.Visible.{AreVisible, HasEntryAt, IsUnwritten, Visible}
use Rattle.rv_hart.specs.Facts.{IsTask}
use Rattle.rv_hart.specs.Lone.{lone_run}
use Rattle.rv_hart.specs.Task.{Task}
use Rattle.rv_hart.specs.Transfers.{entry_of}

-- a record in place of the entry that it is recorded as
abbrev pub HasRecordAt : Stack → ℕ → Record → Type 0
HasRecordAt s k r = HasEntryAt s k (entry_of r)

abbrev pub VisibleRecord : List Event → ℕ → Record → Type 0
VisibleRecord history k r = Visible history k (entry_of r)

-- the entries with V of a lone run, in their order, are the visible ones of its history
abbrev pub ValidAreVisibleInRuns : Type 0
ValidAreVisibleInRuns = (t : Task) (n : ℕ) → IsTask t → IsUnwritten (lone_run t n).history →
    AreVisible (lone_run t n).history (valid_entries (lone_run t n).state.unit.stack.slots)

-- and entry k of it has V and holds a record exactly if the record is visible at k
abbrev pub RecordsAreVisibleInRuns : Type 0
RecordsAreVisibleInRuns = (t : Task) (n k : ℕ) (r : Record) → IsTask t →
    IsUnwritten (lone_run t n).history →
    HasRecordAt (lone_run t n).state.unit.stack k r ↔ VisibleRecord (lone_run t n).history k r
