pub mod Refusals
pub mod Values
