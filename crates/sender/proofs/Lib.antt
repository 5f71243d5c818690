-- Laws of a sender's state and of setting it up.
pub mod Rows
pub mod Outcome
pub mod Accepted
mod Replies
