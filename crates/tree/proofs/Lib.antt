-- Laws of the tree, its table and its settings.
pub mod Powers
pub mod Questions
pub mod Wrote
pub mod Walk
pub mod Tree
pub mod Places
pub mod Filling
pub mod Reading
pub mod Small
pub mod Outcome
