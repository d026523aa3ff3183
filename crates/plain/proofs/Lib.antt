-- The laws that the proofs of plain cite.
pub mod Laws
