-- The number that a byte is replaced by.
pub mod Spreading
