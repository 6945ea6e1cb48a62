pub mod KeptBits
mod TrapLemmas
