pub mod Confidentiality
pub mod Integrity
pub mod Isolation
pub mod Rights
pub mod Stores
