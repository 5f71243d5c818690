-- Laws of a node table.
pub mod Entries
pub mod Nodes
pub mod Searching
