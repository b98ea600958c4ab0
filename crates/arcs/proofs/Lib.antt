-- The laws that the proofs cite, and that callers cite too.
pub mod Bodies
pub mod Seek
pub mod Step
pub mod Same
pub mod Passes
pub mod Kept
pub mod Tests
pub mod Walked
