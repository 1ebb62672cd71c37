pub mod Laws
pub mod Refusal
