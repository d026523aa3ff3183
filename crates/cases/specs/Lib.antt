-- Document 01's bench case.
pub mod Bench
