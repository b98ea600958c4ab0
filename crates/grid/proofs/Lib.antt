-- The laws that the proofs cite; `Cells` and `Reached` have those for callers.
mod Spans
mod Bounds
pub mod Cells
pub mod Reached
