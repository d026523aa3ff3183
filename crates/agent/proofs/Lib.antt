-- The laws that the proofs of the calls cite.
pub mod Laws
