-- Laws of the calls from C.
pub mod Columns
pub mod Answers
pub mod Settings
