-- What a reader must believe: Words, Registers, Fresh, Numbers, Gate, Traps, Entry, Returns and
-- Interrupts, and the statements of Views, StatusLaws, TrapWrites, InterruptLaws and Facts. WordLemmas,
-- RowFacts and FactLemmas have proofs that the crates above cite.
pub mod Words
pub mod Fresh
pub mod Registers
pub mod Numbers
pub mod Gate
pub mod Traps
pub mod Entry
pub mod Returns
pub mod Interrupts
pub mod Views
pub mod StatusLaws
pub mod TrapWrites
pub mod InterruptLaws
pub mod Facts
pub mod WordLemmas
pub mod RowFacts
pub mod FactLemmas
