-- Laws of what concluding comes to.
pub mod Advancing
