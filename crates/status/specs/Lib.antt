pub mod Flag
pub mod Pending
pub mod Saved
