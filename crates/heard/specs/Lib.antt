-- What a message that was read says to a receiver.
pub mod Heard
