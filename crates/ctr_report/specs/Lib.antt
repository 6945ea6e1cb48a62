-- What a reader must believe: Counting and Rows (what branches come to), Report (what a report holds
-- of them), and the statement in Laws.
pub mod Counting
pub mod Report
pub mod Rows
pub mod Laws
