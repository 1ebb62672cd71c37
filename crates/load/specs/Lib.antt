pub mod Call
pub mod Load
pub mod Statement
pub mod Worked
