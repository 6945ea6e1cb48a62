-- The records of a lone run are those that its history leaves, since each of its events records
-- with V.
use Rattle.std.proofs.Common.{◌↔◌, sym, subst, ap, List, [], ◌∷◌}
use Rattle.ctr_buffer.specs.declared.event.Event.{Event}
use Rattle.ctr_buffer.specs.declared.event.Event.TheVariants.{Push, Swap, Pop, Clear, SetDepth, Turn, Poke}
use Rattle.ctr_buffer.specs.Entry.{Entry, valid_entries}
use Rattle.ctr_buffer.specs.Facts.{IsEvent}
use Rattle.ctr_buffer.specs.Stack.{Stack}
use Rattle.ctr_buffer.specs.Visible.{AreVisible, HasTransfer, HaveTransfers, HeldIsVisible, ValidAreVisible}
use Rattle.rv_hart.specs.Facts.{AreEvents, HistoryKeeps}
use Rattle.rv_hart.specs.Lone.{lone_run}
use Rattle.rv_hart.specs.Transfers.{entry_of}
use Rattle.rv_hart.specs.Unreturned.{HasRecordAt, RecordsAreVisibleInRuns, ValidAreVisibleInRuns, VisibleRecord}
use Rattle.rv_hart.proofs.Lones.{lone_follows}

pub has_transfer : (e : Event) → IsEvent e → HasTransfer e
has_transfer (Push e) h = h.valid
has_transfer (Swap e) h = h.valid
has_transfer Pop h = tt
has_transfer Clear h = tt
has_transfer (SetDepth d) h = tt
has_transfer (Turn w) h = tt
has_transfer (Poke i part value) h = tt

pub have_transfers : (events : List Event) → AreEvents events → HaveTransfers events
have_transfers [] h = tt
have_transfers (e ∷ es) h = (has_transfer e h.0, have_transfers es h.1)

pub valid_in_runs : ValidAreVisible → HistoryKeeps → ValidAreVisibleInRuns
valid_in_runs valid keeps t n is unwritten =
    let history = (lone_run t n).history in
    let there = valid history (have_transfers history (keeps t n is)) unwritten in
    let same = ap (λ (s : Stack). s.slots) (lone_follows t n).stack in
    subst (λ (xs : List Entry). AreVisible history (valid_entries xs)) (sym same) there

pub records_in_runs : HeldIsVisible → HistoryKeeps → RecordsAreVisibleInRuns
records_in_runs held keeps t n k r is unwritten =
    let history = (lone_run t n).history in
    let there = held history k (entry_of r) (have_transfers history (keeps t n is)) unwritten in
    subst (λ (s : Stack). HasRecordAt s k r ↔ VisibleRecord history k r)
    (sym (lone_follows t n).stack) there
