-- Laws of taking single cells in any order.
pub mod Rows
pub mod Cell
pub mod Kept
pub mod Removing
pub mod Along
pub mod Ends
pub mod Bound
pub mod Lowest
pub mod Signs
pub mod Lined
pub mod Difference
pub mod Opened
pub mod One
pub mod Orders
pub mod Feigned
