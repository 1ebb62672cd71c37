pub mod Bounds
pub mod Call
pub mod Laws
pub mod Simulation
pub mod Ticked
