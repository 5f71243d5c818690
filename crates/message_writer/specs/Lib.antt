-- What the writers promise.
pub mod Writing
