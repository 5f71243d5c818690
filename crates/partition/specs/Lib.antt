-- The definitions: cuts and blocks, what is answered, and how cuts lie.
pub mod Cuts
pub mod Blocks
pub mod Found
pub mod Sliding
pub mod Scans
pub mod Runs
pub mod Apart
pub mod Places
