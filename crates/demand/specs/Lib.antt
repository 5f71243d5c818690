-- Of the calls from C: what a refused message leaves; trails numbered and ordered again; lists of calls, and demand 3 of them; what a sender
-- writes; what an estimate is worth. When demand 3's condition on the sketch holds. And a whole session between two ends.
pub mod Made
pub mod Demand
pub mod Refusing
pub mod Session
pub mod Sending
pub mod Trails
pub mod Estimating
pub mod Sketch
