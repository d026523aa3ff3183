-- The terms of document 02, Req 06, in reading order.
pub mod Digits
pub mod Stamps
pub mod Lines
pub mod Refusals
