pub mod PickedRow
mod BitLemmas
mod AddressLemmas
