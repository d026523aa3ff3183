-- The laws that the proofs of a document's components cite.
pub mod Laws
