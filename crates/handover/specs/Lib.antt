-- What an accepted message comes to once copying has ended.
pub mod Handover
