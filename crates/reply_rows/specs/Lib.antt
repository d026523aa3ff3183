-- What the contracts of a reply's rows cite.
pub mod Tests
