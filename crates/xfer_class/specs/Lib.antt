-- What a reader must believe: TypeRows (the table of transfer types), Types (their numbers),
-- Missed, and the statement of MissedLaws. Types also has the table as functions, which the crates
-- above cite.
pub mod Types
pub mod TypeRows
pub mod Missed
pub mod MissedLaws
