-- The laws that the proofs cite, this crate's and those of callers.
pub mod Tight
pub mod Views
pub mod Turns
pub mod Walks
