pub mod Need
pub mod Transfer
