-- What a reader must believe: Word, Fields, Layout, Spelling, Format, Breaks, BranchRange, Sample,
-- Cases, Reader, PerfTypes and Flags, the causes of faults in Reading, and Header, Front and Back
-- for the parts of a sample. The rest of Reading and Front ties private functions to them.
pub mod Word
pub mod Fields
pub mod Format
pub mod Layout
pub mod Spelling
pub mod Breaks
pub mod Reading
pub mod Header
pub mod Front
pub mod Back
pub mod BranchRange
pub mod Sample
pub mod Cases
pub mod Reader
pub mod PerfTypes
pub mod Flags
