pub mod Carried
pub mod Operations
