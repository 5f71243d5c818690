-- Laws of what a message says, and of question 11.
pub mod Hearing
