pub mod Eights
pub mod Numbers
pub mod Gathers
