-- What is proved of stamps and lines, and worked lines.
pub mod Digits
pub mod Stamps
pub mod Lines
pub mod Shortest
pub mod Examples
