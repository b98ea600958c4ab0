pub mod Halves
pub mod Times
pub mod Regions
pub mod Frames
