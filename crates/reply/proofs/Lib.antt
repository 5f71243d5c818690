-- The laws behind the replies.
mod Searching
mod Collecting
mod Referring
mod Planning
mod Replying
pub mod Within
