pub mod Each
pub mod Images
pub mod Statement
pub mod Timers
