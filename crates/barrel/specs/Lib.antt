pub mod Barrel
pub mod Laws
