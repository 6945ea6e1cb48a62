-- What a reader must believe: Unit, Ports, Table and Access, and the statements of Laws and Facts. FactLemmas has
-- proofs that the crates above cite.
pub mod Unit
pub mod Ports
pub mod Table
pub mod Access
pub mod Laws
pub mod Facts
pub mod FactLemmas
