-- The laws that the proofs cite.
mod Sums
mod Joins
mod Oracles
mod Planning
mod Outcomes
