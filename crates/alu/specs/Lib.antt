pub mod Alu
pub mod Laws
