pub mod Field
pub mod Sext
pub mod SextLaws
pub mod Mask
pub mod FieldBits
pub mod FieldLaws
pub mod MaskLaws
pub mod MaskBits
