pub mod Same
pub mod Ordered
pub mod Sinking
pub mod Carried
pub mod Passes
