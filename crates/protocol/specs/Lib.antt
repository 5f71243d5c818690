-- The two ends as total functions, lists of calls, and demand 3 as one statement about them.
pub mod Lent
pub mod Nodes
pub mod Numbers
pub mod Sender
pub mod State
pub mod Receiver
pub mod Refusals
pub mod Calls
pub mod Genuine
pub mod Demand
