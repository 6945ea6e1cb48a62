-- What a reader must believe: Memory, Processor, Effect, Transfers, Step, Hart, Task and Lone, and
-- the statements of StepLaws, Ending, Executed, Frozen, Facts and Unreturned.
pub mod Memory
pub mod Processor
pub mod Effect
pub mod Transfers
pub mod Step
pub mod Hart
pub mod Task
pub mod Lone
pub mod StepLaws
pub mod Ending
pub mod Executed
pub mod Frozen
pub mod Facts
pub mod Unreturned
