-- What callers of the asset store's functions are told beside the definitions of spec.
pub mod Cells
