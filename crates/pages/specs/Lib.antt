pub mod Accesses
pub mod Kept
pub mod Maps
