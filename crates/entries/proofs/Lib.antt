-- Laws of an item's eight rows and of the functions over them.
pub mod Columns
pub mod Marks
pub mod Laws
pub mod Filling
pub mod Unused
pub mod Kept
