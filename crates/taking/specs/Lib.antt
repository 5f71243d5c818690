-- Taking a message, said by the definitions of crate `protocol`, and its steps.
pub mod Taking
pub mod Steps
