-- What the calls from C mean.
pub mod Calls
pub mod Trails
