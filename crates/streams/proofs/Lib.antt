-- What is proved of streams documents.
pub mod Rows
pub mod Pieces
pub mod Fill
pub mod Lines
pub mod Sorted
pub mod Reading
pub mod Document
pub mod Exact
pub mod Nesting
pub mod Short
pub mod Examples
