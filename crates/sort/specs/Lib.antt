pub mod Sort
pub mod Shell
