-- What the contracts of a row's line cite.
pub mod Shown
