-- What a reader must believe: Signed, Division, Value and Holds, and the statements of Laws. Sizes
-- ties them to words.
pub mod Signed
pub mod Division
pub mod Value
pub mod Holds
pub mod Laws
pub mod Sizes
