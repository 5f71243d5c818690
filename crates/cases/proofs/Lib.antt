-- The theorem on the table of cases.
pub mod Checked
