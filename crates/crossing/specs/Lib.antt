-- The nodes that share a byte with a range of the string; `Steps` has a word of the crate's own functions, `Laws` those of its theorems.
pub mod Crossing
pub mod Steps
pub mod Laws
