-- Laws of reading a state from bytes and writing it to them.
pub mod Loading
pub mod Storing
