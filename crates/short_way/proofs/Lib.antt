-- The laws that the proofs of short_way cite.
pub mod Laws
