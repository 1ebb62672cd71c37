pub mod Stops
pub mod Theorem
