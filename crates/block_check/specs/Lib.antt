-- What a reader must believe: Image (the words of an image), Straight, Rules (what is asked of one
-- branch), Plausible (what is asked of all of them), and the statements in Laws.
pub mod Image
pub mod Straight
pub mod Rules
pub mod Plausible
pub mod Laws
