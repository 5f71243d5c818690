-- The question of pairs that come twice, and what the steps to its answer say to each other.
pub mod Once
pub mod Places
pub mod Both
