-- The laws that the proofs of recording cite.
pub mod Laws
