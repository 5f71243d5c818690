-- Laws of setting a receiver up and of writing its query.
pub mod Calls
pub mod Small
