-- A sender's state, and what setting a sender up promises.
pub mod State
