pub mod Call
pub mod Laws
pub mod Passed
pub mod Valid
