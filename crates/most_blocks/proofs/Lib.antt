-- The laws: no string has more blocks, whether some have as many, an accepted call says so, and what follows for the cuttings and nodes of a tree.
pub mod Bounded
pub mod Reached
pub mod Accepted
pub mod Long
pub mod Nodes
pub mod Children
pub mod Small
