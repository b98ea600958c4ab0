-- The laws that the proofs cite, and that callers cite too.
pub mod Places
pub mod Grow
pub mod ByBlocks
pub mod ByLinks
pub mod Listing
pub mod Laid
pub mod Readings
pub mod Had
