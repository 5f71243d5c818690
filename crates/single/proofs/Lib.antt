-- Laws of single cells and of taking them.
pub mod Values
pub mod First
pub mod Tables
pub mod Turns
pub mod Differences
pub mod Lengths
