-- What an entry of a node table says, and the entries that a table lists.
pub mod Entries
pub mod Nodes
pub mod Laws
