-- What copying promises.
pub mod Copying
