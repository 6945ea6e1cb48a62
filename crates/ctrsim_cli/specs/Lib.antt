-- What a reader must believe: Words with Numbers, and Does for what each asks for; Schedule, Says and RunEnds for `run`; SampleText,
-- Showing and ShowEnds for `show`; Demo for `demo`, with Counted where it is read on any harts;
-- OnHarts; Fault; and of Performed SaidPart. Laws are consequences of them, and the rest of
-- Performed and Parts tie private functions to them.
pub mod Numbers
pub mod Words
pub mod Fault
pub mod Schedule
pub mod Says
pub mod RunEnds
pub mod SampleText
pub mod Showing
pub mod ShowEnds
pub mod Demo
pub mod Counted
pub mod OnHarts
pub mod Performed
pub mod Parts
pub mod Does
pub mod Laws
