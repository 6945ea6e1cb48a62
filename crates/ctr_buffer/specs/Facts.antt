-- What a record buffer and the events of its history keep to (RISC-V Control Transfer Records 1.0,
-- "Entry Registers").
use Rattle.std.specs.Prelude.{◌≡◌, true}
use Rattle.std.specs.List.{All}
use Rattle.ctr_buffer.specs.declared.event.Event.{Event}
use Rattle.ctr_buffer.specs.declared.event.Event.TheVariants.{Push, Swap, Poke}
use Rattle.ctr_buffer.specs.Entry.{Entry, FitsPart, IsEntry, is_valid}
use Rattle.ctr_buffer.specs.History.{after}
use Rattle.ctr_buffer.specs.Stack.{Stack, IsStack}

-- as many entries as the depth says, each of which is one
pub record IsBuffer (s : Stack) : Type 0 where
  pub stack : IsStack s
  pub slots : All IsEntry s.slots

-- an entry that a transfer is recorded as: V is set
pub record IsRecorded (e : Entry) : Type 0 where
  pub entry : IsEntry e
  pub valid : is_valid e ≡ true

-- an event that a hart makes: what it records holds a transfer, and what it writes is what the part can hold
abbrev pub IsEvent : Event → Type 0
IsEvent (Push e) = IsRecorded e
IsEvent (Swap e) = IsRecorded e
IsEvent (Poke i part value) = FitsPart part value
IsEvent _ = Unit {0}

-- a buffer stays one by such an event
abbrev pub BuffersStay : Type 0
BuffersStay = (s : Stack) (e : Event) → IsBuffer s → IsEvent e → IsBuffer (after s e)
