mod NumberLemmas
mod PickLemmas
mod QuietLemmas
mod ViewLemmas
mod StatusLemmas
mod InterruptLemmas
mod TrapLemmas
