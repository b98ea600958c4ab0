-- The laws that the proofs cite, and that callers cite too.
pub mod Members
pub mod Joined
pub mod Ranks
