-- The laws that the proofs cite, and that callers cite too.
pub mod Stays
pub mod Parts
pub mod Windows
pub mod TimeLaws
pub mod HalfLaws
