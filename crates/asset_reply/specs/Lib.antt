-- What a reply of cells asks of them.
pub mod Cells
