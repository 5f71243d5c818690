-- Laws of words, fields and messages, and of reading them.
pub mod Words
pub mod Fields
pub mod Rising
pub mod Messages
pub mod Reading
pub mod Answers
pub mod Parts
pub mod Codes
