pub mod Examples
pub mod Fields
pub mod Following
pub mod Further
pub mod Rows
pub mod Timers
