-- The laws that the proofs of the document cite.
pub mod Laws
