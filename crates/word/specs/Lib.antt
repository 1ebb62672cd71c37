pub mod Bits
pub mod Cases
pub mod Laws
pub mod Signed
pub mod Width
pub mod Word
pub mod Worked
