-- The terms of document 01, and of what of document 02 has landed, that the calls over stores and the reference model
-- are put together from, in reading order.
pub mod Words
pub mod Found
pub mod Blocks
pub mod Bytes
pub mod Value
pub mod Entries
pub mod Model
pub mod Text
pub mod Path
pub mod Assets
pub mod Reply
pub mod Answers
