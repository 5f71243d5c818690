-- Of the calls from C, why: what a refused message leaves, trails, demand 3, what a sender writes, what an estimate is worth; when a sketch opens
-- as demand 3 wants it; and why a session between two ends goes through.
pub mod Answers
pub mod Demand
pub mod Refusing
pub mod Sizes
pub mod Round
pub mod Session
pub mod Sending
pub mod Trails
pub mod Estimating
pub mod Sketch
