pub mod Laws
pub mod Settings
