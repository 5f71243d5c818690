-- The table's rule.
pub mod Rule
