-- What the contracts of stamps cite.
pub mod Shown
