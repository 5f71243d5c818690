-- Laws of a session: what is written fits its buffer, and each way out is a case of the definition.
pub mod Fitting
pub mod Exchange
pub mod Rounds
pub mod Setups
