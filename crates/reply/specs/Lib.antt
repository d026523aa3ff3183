-- What stands at the front of a reply.
pub mod Fitted
