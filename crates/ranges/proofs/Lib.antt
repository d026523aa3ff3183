-- The laws that the proofs of the functions cite, and what passes the range.
pub mod Laws
