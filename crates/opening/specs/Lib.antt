-- Whether a sketch opens, the new list in its table, and the steps of both.
pub mod Steps
pub mod Deciding
pub mod Renewing
pub mod Opened
