-- The history of a record buffer: what changed it, the oldest event first; and what it holds
-- after a history (RISC-V Control Transfer Records 1.0, "Entry Registers", registers sctrdepth
-- and sctrstatus, "RAS Emulation Mode" and "Supervisor CTR Clear Instruction").
use Rattle.std.specs.Prelude.{ℕ, ◌+◌, ◌-◌, ◌*◌, ◌%◌, ◌≡◌, ◌≢◌, ◌<◌, Bool, true, false, List, [], ◌∷◌, cond, count_by, fold}
use Rattle.std.specs.List.{list_any}
use Rattle.ctr_csrs.specs.declared.depth.Depth.{Depth}
use Rattle.ctr_csrs.specs.declared.depth.Depth.TheVariants.{D16}
use Rattle.ctr_csrs.specs.Depths.{entries_of}
use Rattle.ctr_buffer.specs.declared.event.Event.{Event}
use Rattle.ctr_buffer.specs.declared.event.Event.TheVariants.{Push, Swap, Pop, Clear, SetDepth, Turn, Poke}
use Rattle.ctr_buffer.specs.Entry.{FitsPart, is_valid, with_part}
use Rattle.ctr_buffer.specs.Stack.{Stack, size_of, empty, after_push, after_pop, after_swap, after_clear, after_turn, after_poke, entry_at}

-- what a stack becomes by an event
abbrev pub after : Stack → Event → Stack
after s (Push e) = after_push s e
after s (Swap e) = after_swap s e
after s Pop = after_pop s
after s Clear = after_clear s
after s (SetDepth depth) = empty depth
after s (Turn w) = after_turn s w
after s (Poke i part value) = after_poke s i (with_part (entry_at s i) part value)

-- a history begins with the depth
abbrev pub IsHistory : List Event → Type 0
IsHistory [] = ⊥
IsHistory (SetDepth _ ∷ _) = Unit {0}
IsHistory (_ ∷ _) = ⊥

-- what the buffer holds after a history
abbrev pub stack_of : List Event → Stack
stack_of history = fold after (empty D16) history

-- the depth of the last SetDepth, or the given one where there is none
abbrev pub deep_from : Depth → List Event → Depth
deep_from depth [] = depth
deep_from depth (SetDepth deeper ∷ later) = deep_from deeper later
deep_from depth (_ ∷ later) = deep_from depth later

-- whether an event sets the pointer, and where
abbrev pub sets_pointer : Event → Bool
sets_pointer (SetDepth _) = true
sets_pointer (Turn _) = true
sets_pointer _ = false

abbrev pub place_set : ℕ → Event → ℕ
place_set start (SetDepth _) = 0
place_set start (Turn w) = w
place_set start _ = start

-- where the pointer was set last, or the given place where no event sets it
abbrev pub set_from : ℕ → List Event → ℕ
set_from start [] = start
set_from start (e ∷ later) = cond (list_any sets_pointer later) (set_from start later) (place_set start e)

-- the events after the last that sets the pointer
abbrev pub since : List Event → List Event
since [] = []
since (e ∷ later) = cond (list_any sets_pointer later) (since later) (cond (sets_pointer e) later (e ∷ later))

abbrev pub is_push : Event → Bool
is_push (Push _) = true
is_push _ = false

abbrev pub is_pop : Event → Bool
is_pop Pop = true
is_pop _ = false

-- modulo the depth: a place, plus the pushes, less the pops, each of which counts as one less than the depth
abbrev pub pointer_after : ℕ → ℕ → List Event → ℕ
pointer_after size place events = (place + count_by is_push events + (size - 1) * count_by is_pop events) % size

-- the same by additions alone: together with the pops it is the place and the pushes, modulo the depth
pub record IsCounted (size place : ℕ) (events : List Event) (pointer : ℕ) : Type 0 where
  pub within : pointer < size
  pub sum : (pointer + count_by is_pop events) % size ≡ (place + count_by is_push events) % size

-- the pointer after a history, pointer_after from its events
abbrev pub pointer_from : Depth → ℕ → List Event → ℕ
pointer_from depth start history = pointer_after (entries_of (deep_from depth history)) (set_from start history) (since history)

abbrev pub deep_of : List Event → Depth
deep_of history = deep_from D16 history

abbrev pub pointer_of : List Event → ℕ
pointer_of history = pointer_from D16 0 history

abbrev pub HasPointer : List Event → ℕ → Type 0
HasPointer history pointer = IsCounted (entries_of (deep_of history)) (set_from 0 history) (since history) pointer

-- an event that a stack can take: an entry with V, another depth, another pointer below the depth, an index below the depth
-- with a value that its part can hold
abbrev pub CanTake : Stack → Event → Type 0
CanTake s (Push e) = is_valid e ≡ true
CanTake s (Swap e) = is_valid e ≡ true
CanTake s (SetDepth depth) = entries_of depth ≢ size_of s
CanTake s (Turn w) = (w < size_of s) × (w ≢ s.pointer)
CanTake s (Poke i part value) = (i < size_of s) × FitsPart part value
CanTake s _ = Unit {0}

-- events that a stack can take one after another
abbrev pub CanTakeAll : Stack → List Event → Type 0
CanTakeAll s [] = Unit {0}
CanTakeAll s (e ∷ later) = CanTake s e × CanTakeAll (after s e) later
