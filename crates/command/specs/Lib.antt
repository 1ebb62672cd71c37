pub mod Card
pub mod Command
pub mod Commands
pub mod Kind
pub mod Laws
pub mod Parts
pub mod Turns
pub mod Whole
