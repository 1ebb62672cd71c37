pub mod Calls
pub mod Executing
pub mod Keeps
pub mod Operands
pub mod Parses
pub mod Reading
pub mod Statement
