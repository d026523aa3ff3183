-- Laws that the functions' proofs cite.
pub mod Laws
pub mod CellLaws
pub mod Classes
