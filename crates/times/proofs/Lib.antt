pub mod Calls
pub mod CardCalls
pub mod Simulations
pub mod Steps
pub mod Users
