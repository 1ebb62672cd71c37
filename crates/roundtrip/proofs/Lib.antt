pub mod Fits
pub mod Good
pub mod Ranged
pub mod RangedSteps
pub mod Runs
pub mod Steps
