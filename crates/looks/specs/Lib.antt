pub mod Statement
pub mod Stopped
pub mod Worked
