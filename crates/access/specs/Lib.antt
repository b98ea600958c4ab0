pub mod Gathered
pub mod Networks
pub mod Crossed
pub mod Pairs
