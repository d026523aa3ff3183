-- The laws that the proofs of the stages cite.
pub mod Laws
