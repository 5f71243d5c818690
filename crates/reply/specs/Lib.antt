-- What a sender's reply promises, and in `Parts` the words of the crate's own functions.
pub mod Reply
pub mod Parts
