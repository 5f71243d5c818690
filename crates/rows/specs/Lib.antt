-- Lent bytes as rows of 64-bit numbers.
pub mod Rows
