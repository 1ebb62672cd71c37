pub mod Bench
pub mod Worked
