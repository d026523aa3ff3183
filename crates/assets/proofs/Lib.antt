-- The laws that the proofs of the asset store's functions cite.
pub mod Laws
