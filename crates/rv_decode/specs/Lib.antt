pub use Rattle.ctr_bits.specs.Field
pub use Rattle.ctr_bits.specs.Sext
pub mod Formats
pub mod Table
pub mod Rows
pub mod Numbers
pub mod Laws
pub mod WordFits
