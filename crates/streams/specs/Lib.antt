-- The terms of document 02, Req 07, in reading order.
pub mod Streams
pub mod ReadStreams
pub mod Groups
pub mod Nesting
