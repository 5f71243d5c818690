-- How taking a message leaves the session.
pub mod Advance
