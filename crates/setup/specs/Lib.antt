-- What setting up either end asks, answers and leaves in its tables.
pub mod Questions
pub mod Tables
pub mod Asked
