pub mod Entries
pub mod Linear
pub mod Order
