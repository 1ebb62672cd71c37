pub mod Between
pub mod Numbers
pub mod Statement
pub mod Stopped
