pub mod Laws
pub mod Text
pub mod Writer
pub mod Written
pub mod Wrote
