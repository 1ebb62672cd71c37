pub mod Call
pub mod Effect
pub mod Inside
pub mod Laws
pub mod Passed
