-- What the contracts of the document cite.
pub mod Header
