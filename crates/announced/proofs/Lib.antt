-- Laws of the copied cells, of the questions in their order, and of what the receiver is promised.
pub mod Tables
pub mod Values
pub mod Ladder
pub mod Received
