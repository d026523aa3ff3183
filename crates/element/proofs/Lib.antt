-- The laws that the proofs of element names cite.
pub mod Laws
