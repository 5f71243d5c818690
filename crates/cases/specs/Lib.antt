-- The table of cases.
pub mod Cases
