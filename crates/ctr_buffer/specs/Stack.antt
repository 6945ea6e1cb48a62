-- The record buffer as the one list that software sees, with the youngest entry first, beside its depth and its write
-- pointer (RISC-V Control Transfer Records 1.0, "Entry Registers" and register sctrstatus). Where an entry lies is no
-- part of it.
use Rattle.std.specs.Prelude.{ℕ, ◌+◌, ◌-◌, ◌%◌, ◌≡◌, ◌<◌, List, [], ◌∷◌, ◌++◌, cond, length, map, nat_eq, replicate, slice_index_or, slice_set, take}
use Rattle.std.specs.List.{range_with_len}
use Rattle.ctr_csrs.specs.declared.depth.Depth.{Depth}
use Rattle.ctr_csrs.specs.Depths.{entries_of}
use Rattle.ctr_buffer.specs.Entry.{Entry, zero_entry, unlinked}

pub record Stack : Type 0 where
  pub depth : Depth
  pub slots : List Entry
  pub pointer : ℕ

-- how many entries it has
abbrev pub size_of : Stack → ℕ
size_of s = entries_of s.depth

-- as many entries as the depth says, and the pointer below it
pub record IsStack (s : Stack) : Type 0 where
  pub full : length s.slots ≡ entries_of s.depth
  pub within : s.pointer < entries_of s.depth

-- zero entries of a depth, and the pointer 0
abbrev pub empty : Depth → Stack
empty depth = record { depth = depth; slots = replicate (entries_of depth) zero_entry; pointer = 0 }

-- a transfer is recorded: it comes first, and the last entry is lost
abbrev pub after_push : Stack → Entry → Stack
after_push s e = record { depth = s.depth; slots = e ∷ take (size_of s - 1) s.slots; pointer = (s.pointer + 1) % size_of s }

-- the entries without the first, then the first with V after_clear
abbrev pub first_last : List Entry → List Entry
first_last [] = []
first_last (e ∷ older) = older ++ unlinked e ∷ []

-- a return under return-stack emulation
abbrev pub after_pop : Stack → Stack
after_pop s = record { depth = s.depth; slots = first_last s.slots; pointer = (s.pointer + size_of s - 1) % size_of s }

-- a co-routine swap under return-stack emulation: the first entry is replaced, the pointer stays
abbrev pub after_swap : Stack → Entry → Stack
after_swap s e = record { depth = s.depth; slots = slice_set s.slots 0 e; pointer = s.pointer }

-- SCTRCLR: zero entries, the pointer stays
abbrev pub after_clear : Stack → Stack
after_clear s = record { depth = s.depth; slots = replicate (size_of s) zero_entry; pointer = s.pointer }

-- a write of the pointer, kept modulo the depth: entry i is what entry (old - new + i) modulo the depth was
abbrev pub turned_slots : ℕ → ℕ → ℕ → List Entry → List Entry
turned_slots size old new slots = map (λ i. slice_index_or slots ((old + size - new + i) % size) zero_entry) (range_with_len 0 size)

abbrev pub after_turn : Stack → ℕ → Stack
after_turn s w = record { depth = s.depth; slots = turned_slots (size_of s) s.pointer (w % size_of s) s.slots; pointer = w % size_of s }

-- a write of the depth: the same depth changes nothing, another one empties
abbrev pub after_resize : Stack → Depth → Stack
after_resize s depth = cond (nat_eq (entries_of depth) (size_of s)) s (empty depth)

-- a write of entry i alone
abbrev pub after_poke : Stack → ℕ → Entry → Stack
after_poke s i e = record { depth = s.depth; slots = slice_set s.slots i e; pointer = s.pointer }

-- entry i, the zero entry from the depth up
abbrev pub entry_at : Stack → ℕ → Entry
entry_at s i = slice_index_or s.slots i zero_entry
