-- The laws that the proofs cite, and that callers cite too.
pub mod Counts
mod Finding
mod Leaving
mod Renumbering
mod Results
mod Passing
