pub mod Decode
pub mod Image
