-- The tree of blocks and its table, as documents 01 and 02 have them; `Bounds` and `Wrote` are words of the crate's own functions.
pub mod Questions
pub mod Tree
pub mod Places
pub mod Table
pub mod Filling
pub mod Bounds
pub mod Wrote
pub mod Laws
