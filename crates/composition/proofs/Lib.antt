-- Laws of composing: the table of the references' pairs, each way out, and what a receiver takes from the answer.
pub mod Numbers
pub mod Padding
pub mod Filling
pub mod Passing
pub mod Answering
pub mod Composed
