-- The laws that the proofs cite; `Listing`, `Taken`, `Seeking` and `Counting` have those for callers.
pub mod Listing
pub mod Taken
pub mod Seeking
pub mod Counting
mod Passing
