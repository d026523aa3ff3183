-- The laws that the proofs of starting cite.
pub mod Filling
pub mod Laws
pub mod Turns
