-- Laws of copying.
pub mod Finding
pub mod Appending
pub mod Settling
