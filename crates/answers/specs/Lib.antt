-- A word of the contracts' own.
pub mod Places
