pub mod Reading
pub mod Twice
pub mod Alike
pub mod At
pub mod Noting
pub mod Carried
pub mod Differing
pub mod Answer
