-- What the contracts of a component's rows cite.
pub mod Groups
pub mod Lists
pub mod Slots
