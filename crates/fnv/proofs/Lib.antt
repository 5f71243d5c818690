-- Laws of FNV-1a and block ids.
pub mod Fnv
