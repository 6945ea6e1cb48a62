-- Which recorded transfers are unreturned, from the events of a history alone (RISC-V Control
-- Transfer Records 1.0, "RAS Emulation Mode" and "Entry Registers"). Nothing of it knows a list of
-- entries or a pointer: pushes and pops are counted.
use Rattle.std.specs.Prelude.{ℕ, suc, ◌+◌, ◌≡◌, ◌<◌, ◌≤◌, ◌↔◌, Bool, true, false, List, [], ◌∷◌, cond, count_by, drop, length, slice_index_or, take}
use Rattle.std.specs.List.{list_any}
use Rattle.ctr_csrs.specs.Depths.{entries_of}
use Rattle.ctr_buffer.specs.declared.event.Event.{Event}
use Rattle.ctr_buffer.specs.declared.event.Event.TheVariants.{Push, Swap, Clear, SetDepth, Turn, Poke}
use Rattle.ctr_buffer.specs.Entry.{Entry, is_valid, valid_entries, zero_entry}
use Rattle.ctr_buffer.specs.History.{CanTakeAll, deep_of, is_push, is_pop, stack_of}
use Rattle.ctr_buffer.specs.Stack.{Stack, entry_at}

-- the events that empty the buffer
abbrev pub empties : Event → Bool
empties Clear = true
empties (SetDepth depth) = true
empties _ = false

-- the events after the last of them, or all where there is none
abbrev pub since_emptied : List Event → List Event
since_emptied [] = []
since_emptied (e ∷ later) =
    cond (list_any empties later) (since_emptied later) (cond (empties e) later (e ∷ later))

abbrev pub pushes : List Event → ℕ
pushes events = count_by is_push events

abbrev pub pops : List Event → ℕ
pops events = count_by is_pop events

-- the balance of events is the number of pushes less the number of pops: it isn't below 0, and
-- doesn't reach the depth
pub record HasBalance (size : ℕ) (events : List Event) : Type 0 where
  pub least : pops events ≤ pushes events
  pub most : pushes events < pops events + size

-- what was recorded just before these events is left by them, k entries deep: the first n of them
-- have a balance, for each n; before each swap it isn't 0; that of all of them is k
pub record IsLeft (size : ℕ) (later : List Event) (k : ℕ) : Type 0 where
  pub balanced : (n : ℕ) → HasBalance size (take n later)
  pub swaps : (n : ℕ) (e : Entry) → slice_index_or later n Clear ≡ Swap e
      → pops (take n later) < pushes (take n later)
  pub end : pushes later ≡ pops later + k

-- the entry that an event records
abbrev pub HasRecord : Event → Entry → Type 0
HasRecord (Push e) r = e ≡ r
HasRecord (Swap e) r = e ≡ r
HasRecord _ r = ⊥

-- event number `at` of these events records r, and those after it leave it k entries deep
pub record IsVisibleAt (size : ℕ) (events : List Event) (k : ℕ) (r : Entry) (at : ℕ) : Type 0 where
  pub records : HasRecord (slice_index_or events at Clear) r
  pub left : IsLeft size (drop (suc at) events) k

-- some event since the buffer was emptied records r and leaves it k entries deep
abbrev pub Visible : List Event → ℕ → Entry → Type 0
Visible history k r =
    (at : ℕ) × IsVisibleAt (entries_of (deep_of history)) (since_emptied history) k r at

-- at most one event does
abbrev pub OneIsVisible : Type 0
OneIsVisible = (size : ℕ) (events : List Event) (k : ℕ) (r q : Entry) (i j : ℕ) →
    IsVisibleAt size events k r i → IsVisibleAt size events k q j → (i ≡ j) × (r ≡ q)

-- each entry that the events record holds a transfer
abbrev pub HasTransfer : Event → Type 0
HasTransfer (Push e) = is_valid e ≡ true
HasTransfer (Swap e) = is_valid e ≡ true
HasTransfer _ = Unit {0}

abbrev pub HaveTransfers : List Event → Type 0
HaveTransfers [] = Unit {0}
HaveTransfers (e ∷ later) = HasTransfer e × HaveTransfers later

-- software writes the pointer, or an entry
abbrev pub is_write : Event → Bool
is_write (Turn w) = true
is_write (Poke i part value) = true
is_write _ = false

-- it wrote neither since the buffer was emptied
abbrev pub IsUnwritten : List Event → Type 0
IsUnwritten history = list_any is_write (since_emptied history) ≡ false

-- entry k of a stack has V and is r
abbrev pub HasEntryAt : Stack → ℕ → Entry → Type 0
HasEntryAt s k r = (entry_at s k ≡ r) × (is_valid r ≡ true)

-- then an entry of the stack has V exactly if it is visible there
abbrev pub HeldIsVisible : Type 0
HeldIsVisible =
    (history : List Event) (k : ℕ) (r : Entry) → HaveTransfers history → IsUnwritten history →
    HasEntryAt (stack_of history) k r ↔ Visible history k r

-- r is item k
abbrev pub IsItem : List Entry → ℕ → Entry → Type 0
IsItem xs k r = (k < length xs) × (slice_index_or xs k zero_entry ≡ r)

-- these are the visible entries of a history, in the order of k
abbrev pub AreVisible : List Event → List Entry → Type 0
AreVisible history xs = (k : ℕ) (r : Entry) → IsItem xs k r ↔ Visible history k r

-- and its entries with V are the visible ones, in their order
abbrev pub ValidAreVisible : Type 0
ValidAreVisible = (history : List Event) → HaveTransfers history → IsUnwritten history →
    AreVisible history (valid_entries (stack_of history).slots)

-- events that a stack can take one after another record transfers
abbrev pub TakenHaveTransfers : Type 0
TakenHaveTransfers = (s : Stack) (events : List Event) → CanTakeAll s events → HaveTransfers events
