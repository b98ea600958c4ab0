-- The laws that the proofs cite; `Crossed` has those for callers.
pub mod Crossed
mod Alike
