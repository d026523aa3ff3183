-- Worked examples of both layers, and what is proved of single requests of document 02 by them.
pub mod Opened
pub mod Fixtures
pub mod Bench
pub mod Worked
pub mod Bounds
pub mod Orders
pub mod Damaged
pub mod Batches
pub mod Discrete
pub mod Conditions
pub mod Polled
pub mod Lines
pub mod Refusals
