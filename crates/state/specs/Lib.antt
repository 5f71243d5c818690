-- The receiver's state as a struct, and what its calls promise.
pub mod Receivers
pub mod Pushing
pub mod Asking
