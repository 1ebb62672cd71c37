pub mod Jump
pub mod Laws
