-- The record buffer as a ring: entries lie in an array where they were recorded, and the write pointer says where the next
-- one goes (RISC-V Control Transfer Records 1.0, "Entry Registers" and register sctrstatus).
use Rattle.std.specs.Prelude.{ℕ, ◌+◌, ◌-◌, ◌%◌, ◌≡◌, ◌<◌, List, drop, length, map, replicate, slice_index_or}
use Rattle.std.specs.List.{range_with_len}
use Rattle.ctr_csrs.specs.declared.depth.Depth.{Depth}
use Rattle.ctr_csrs.specs.Depths.{entries_of}
use Rattle.ctr_buffer.specs.Entry.{Entry, zero_entry}
use Rattle.ctr_buffer.specs.Stack.{Stack}

-- where entry i lies: the youngest just before the pointer, each older one before it, around the ring
abbrev pub place_of : ℕ → ℕ → ℕ → ℕ
place_of size pointer i = (pointer + size - 1 - i) % size

-- the entries from the youngest to the oldest
abbrev pub ring_slots : ℕ → ℕ → List Entry → List Entry
ring_slots size pointer ring = map (λ i. slice_index_or ring (place_of size pointer i) zero_entry) (range_with_len 0 size)

-- the stack that a ring means
abbrev pub ring_stack : Depth → ℕ → List Entry → Stack
ring_stack depth pointer ring = record { depth = depth; slots = ring_slots (entries_of depth) pointer ring; pointer = pointer }

-- 256 physical entries, of which those from the depth up are zero, and a pointer below the depth
pub record IsRing (depth : Depth) (pointer : ℕ) (ring : List Entry) : Type 0 where
  pub within : pointer < entries_of depth
  pub full : length ring ≡ 256
  pub rest : drop (entries_of depth) ring ≡ replicate (256 - entries_of depth) zero_entry
