-- The receiver's state in lent bytes.
pub mod Bytes
