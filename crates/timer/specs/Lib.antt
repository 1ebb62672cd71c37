pub mod AtOnce
pub mod Laws
pub mod Port
pub mod Time
pub mod Worked
