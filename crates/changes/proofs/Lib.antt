-- The laws that the proofs of changes cite.
pub mod Laws
pub mod Steps
