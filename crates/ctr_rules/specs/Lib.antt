-- What a reader must believe: RowTable (the recording table), Admitted, Enabled, FilterBits and FreezeBits. Asked
-- ties how the code asks to them.
pub mod Admitted
pub mod Asked
pub mod Enabled
pub mod FilterBits
pub mod FreezeBits
pub mod RowTable
