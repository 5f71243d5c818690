-- Laws of strata: the stratum of a hash, building, the questions, whether a stratum opens, the sum, what the estimate is worth, and that
-- 64 bits hold it.
pub mod Capped
pub mod Building
pub mod Parts
pub mod Turns
pub mod Refusals
pub mod Members
pub mod Verdict
pub mod Summing
pub mod Itself
pub mod Counting
pub mod Exact
pub mod Small
