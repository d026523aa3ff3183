-- The laws of words written, which the writers of replies use.
pub mod Laws
