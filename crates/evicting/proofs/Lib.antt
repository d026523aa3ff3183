-- The laws that the proofs of evicting cite.
pub mod Laws
