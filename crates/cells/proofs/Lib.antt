-- The laws that the proofs of the byte moves cite.
pub mod Laws
