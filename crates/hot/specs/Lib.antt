pub mod Arms
pub mod Conditions
pub mod Moves
pub mod Tells
