pub mod Pass
pub mod Picks
