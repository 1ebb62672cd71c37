pub mod Cards
pub mod Lines
pub mod Milliseconds
pub mod NoTime
pub mod Passing
pub mod Statement
