-- A whole session between two strings, said by the definitions of crate `protocol`.
pub mod Session
pub mod Calls
