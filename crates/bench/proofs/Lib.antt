-- The laws that the proofs of the bench case cite.
pub mod Laws
pub mod Lengths
