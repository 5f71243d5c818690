pub mod Shingles
pub mod Table
pub mod Steps
pub mod Rising
pub mod Children
pub mod TreePairs
