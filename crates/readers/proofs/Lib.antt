pub mod Consuming
pub mod Shown
pub mod Stops
