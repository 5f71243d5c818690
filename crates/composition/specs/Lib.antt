-- What a composition gives by question 17, and in `Table` the words of the crate's own functions.
pub mod Composition
pub mod Table
