-- The laws that the call's proof cites.
pub mod Laws
