-- What is proved of the words of replies.
pub mod Laws
