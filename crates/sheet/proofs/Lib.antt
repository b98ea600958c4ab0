-- The laws that the proofs cite, and that callers cite too.
pub mod Effects
pub mod Abouts
pub mod Lasts
pub mod Noting
pub mod Costs
pub mod Ground
pub mod Forms
pub mod SlowLines
