-- The laws behind the crossed nodes.
mod Crossing
pub mod Small
pub mod Exact
