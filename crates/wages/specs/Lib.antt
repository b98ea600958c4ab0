-- What a reader believes.
pub mod Wages
pub mod WagesDemands
pub mod Trials
-- What the code and the proofs go by.
pub mod Kept
pub mod Tallies
pub mod Sizes
pub mod WagesLaws
