pub mod Grants
pub mod Laws
pub mod Masks
pub mod Positions
