-- What the contracts of the replies cite.
pub mod Replied
