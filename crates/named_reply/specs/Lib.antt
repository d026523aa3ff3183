-- What the writers of replies keep of the cells that they are to show.
pub mod Cells
