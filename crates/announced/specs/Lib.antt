-- The cells of an opening message as a table, and what is asked of what it announces.
pub mod Cells
pub mod Judging
