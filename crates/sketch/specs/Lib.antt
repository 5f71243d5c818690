-- Cells, and opening a sketch, as document 01 has them; `Sums` is what both are made of.
pub mod Cells
pub mod Sums
pub mod Opening
pub mod Putting
