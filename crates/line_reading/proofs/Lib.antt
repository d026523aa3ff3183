-- The laws that the proof of reading a line cites.
pub mod Laws
