-- The laws that the proofs of eights cite.
pub mod Laws
