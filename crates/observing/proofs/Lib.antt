-- The laws that the proofs of observing cite.
pub mod Laws
