pub mod Ranges
pub mod Writing
pub mod Flat
pub mod Laws
