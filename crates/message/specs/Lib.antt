-- Words and messages as document 01 has them; `Reading` and `Parts` are what the reader promises.
pub mod Words
pub mod Kinds
pub mod Fields
pub mod Messages
pub mod Reading
pub mod Parts
