-- The laws that the proofs of storing cite.
pub mod Laws
