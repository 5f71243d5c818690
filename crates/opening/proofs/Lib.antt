-- Laws of reading a list, of the new list, of pairs that come twice, and of whether a sketch opens.
pub mod Scanning
pub mod Keeping
pub mod Sorting
pub mod Outcome
pub mod Apart
pub mod Passing
pub mod Verdict
pub mod Ladder
pub mod Opened
pub mod Small
