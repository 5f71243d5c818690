-- The receiver's calls, said of a state in lent bytes.
pub mod Held
