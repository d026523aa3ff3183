-- The laws that the proofs of a row's line cite.
pub mod Laws
