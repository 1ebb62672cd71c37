pub mod End
pub mod Result
pub mod Trap
