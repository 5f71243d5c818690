-- Laws of concluding.
pub mod Concluding
pub mod Outcomes
