-- The laws that the proofs cite; `Writing`, `Pieces`, `Comparing` and `Turns` have those for callers.
pub mod Writing
pub mod Pieces
pub mod Comparing
pub mod Taking
pub mod Turns
mod Indexes
mod Offsets
