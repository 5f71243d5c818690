-- Laws of rows.
pub mod Rows
pub mod Put
