pub mod Premises
pub mod Entries
pub mod Oracles
pub mod Bounds
