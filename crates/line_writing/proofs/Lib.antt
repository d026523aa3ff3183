-- What the proof of write_line uses.
pub mod Laws
