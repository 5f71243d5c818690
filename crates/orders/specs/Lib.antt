-- Taking single cells in any order: document 02, request 13.
pub mod Taking
pub mod Left
pub mod Limits
pub mod Orders
pub mod Feigned
