-- The laws that the proofs of a component's rows cite.
pub mod Laws
pub mod Slotting
pub mod Listing
