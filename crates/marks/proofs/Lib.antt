-- The laws that the proofs of marks cite, and of marks beside the entries that they are of.
pub mod Keys
pub mod Laws
pub mod Places
pub mod Repeats
