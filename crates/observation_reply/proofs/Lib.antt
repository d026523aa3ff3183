-- What is proved of the replies of observations.
pub mod Laws
