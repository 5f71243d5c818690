-- What the repeated taking of single cells answers, and the steps it is made of.
pub mod Peeling
pub mod Steps
