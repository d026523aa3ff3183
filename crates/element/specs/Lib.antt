-- What the contracts of element names cite.
pub mod Pascal
