-- What a reader must believe: Scheduled with Samples and Start; of Runs is_due, spellings and IsCut;
-- of Stands the steps, the places and the names of commands; of View Plan and is_at; Refusals with
-- no_place of Outcome; Breaks; and AreMade of HartSet. docs/definitions.md lists them. All else ties
-- functions to them, and says what follows from them.
pub mod Irqs
pub mod Tasks
pub mod Samples
pub mod Runs
pub mod View
pub mod Counts
pub mod Engine
pub mod Outcome
pub mod Stands
pub mod HartsAt
pub mod Refusals
pub mod StandsAfter
pub mod Start
pub mod Parts
pub mod Placing
pub mod Breaks
pub mod Visible
pub mod ByLine
pub mod Scheduled
pub mod HartSet
pub mod Laws
