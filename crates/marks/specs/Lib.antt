pub mod Marks
pub mod Marked
