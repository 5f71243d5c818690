-- Laws of writing messages.
pub mod Writing
