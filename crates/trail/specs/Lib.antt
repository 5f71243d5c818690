-- Trails over a multiset of pairs as document 01 has them; `Search` holds words of the crate's own functions.
pub mod Trails
pub mod Search
pub mod Calls
