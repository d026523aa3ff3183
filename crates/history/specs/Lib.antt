-- The observation store, the calls over stores, the reference model, and what is said of lists of calls, in reading
-- order.
pub mod Observations
pub mod Calls
pub mod Recorded
pub mod Standing
pub mod Reference
pub mod History
pub mod Polls
