pub mod Block
pub mod Twelve
pub mod Parts
pub mod Near
pub mod Kept
pub mod Trials
