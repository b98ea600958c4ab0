-- The laws that the proofs cite, and that callers cite too.
pub mod OrderLaws
mod LevelLaws
pub mod WordLaws
pub mod SwapLaws
mod FillLaws
mod SiftLaws
mod StoreLaws
mod ReachLaws
mod TakeLaws
