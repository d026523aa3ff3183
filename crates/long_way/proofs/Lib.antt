-- The laws that the proofs of long_way cite.
pub mod Laws
