-- The laws that the proofs of asking and text cite.
pub mod Laws
pub mod Texts
