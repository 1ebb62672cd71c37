pub mod Theorem
pub mod Through
