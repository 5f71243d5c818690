-- Laws of a state in lent bytes.
pub mod Outcome
pub mod Small
