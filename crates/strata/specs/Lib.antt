-- The strata estimator: `Strata` has document 02's words, `Calls` what the two calls promise, `Steps` words of the crate's own functions, `Laws`
-- those of its theorems.
pub mod Strata
pub mod Calls
pub mod Steps
pub mod Laws
