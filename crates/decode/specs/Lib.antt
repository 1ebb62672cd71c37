pub mod Code
pub mod Decode
pub mod Entry
pub mod Instructions
pub mod Laws
pub mod Mode
pub mod Opcode
pub mod Properties
