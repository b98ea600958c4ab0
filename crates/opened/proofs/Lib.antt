-- The laws that the proofs cite; those of `pub` modules are for callers too.
pub mod SearchWords
pub mod OpenLaws
pub mod Outputs
mod EarlyWays
pub mod StoppedWays
pub mod WayLaws
mod WayNodes
