-- Laws of sums, cells and differences.
pub mod Tags
pub mod Sums
pub mod Once
pub mod Difference
pub mod Cells
pub mod Filling
pub mod Putting
pub mod NewList
pub mod Subtracting
pub mod Takings
