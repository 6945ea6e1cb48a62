-- What a reader must believe: Entry, Stack, History, Facts and Visible, and the statements of
-- EntryLaws. Ring ties the fast store to them; HistoryLaws and FactLemmas have proofs that the
-- crates above cite.
pub mod Entry
pub mod EntryLaws
pub mod Facts
pub mod FactLemmas
pub mod History
pub mod HistoryLaws
pub mod Ring
pub mod Stack
pub mod Visible
