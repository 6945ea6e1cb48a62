-- What a reader must believe: Lines, Numbers, Rows, Irqs, Header, Images, Commands, Reader, Text
-- and Outcomes, and the statement of Grammar. Progress, Marks, InHand, Window and Causes tie
-- private functions to them.
pub mod Lines
pub mod InHand
pub mod Window
pub mod Numbers
pub mod Rows
pub mod Irqs
pub mod Marks
pub mod Header
pub mod Grammar
pub mod Progress
pub mod Images
pub mod Commands
pub mod Reader
pub mod Text
pub mod Outcomes
pub mod Causes
