-- Laws of the receiver's state.
pub mod Nine
pub mod Pushing
pub mod Asking
pub mod Keeping
pub mod Small
