-- The numbers of the questions, and the answers of the calls.
pub mod Answer
