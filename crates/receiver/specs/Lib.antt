-- Setting a receiver up and writing its query, said by the definitions of crate `protocol`.
pub mod Calls
