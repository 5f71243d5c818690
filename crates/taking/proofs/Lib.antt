-- Laws of taking a message.
pub mod Giving
pub mod Opening
pub mod Node
pub mod Composition
pub mod Literal
pub mod Taking
