-- Laws of setting up an end.
pub mod Questions
pub mod Sizes
pub mod Outcome
pub mod Accepted
pub mod Small
