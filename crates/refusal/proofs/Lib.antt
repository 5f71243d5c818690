-- A law of the numbers.
pub mod Numbers
