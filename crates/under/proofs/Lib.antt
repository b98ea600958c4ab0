-- The laws that the proofs cite.
mod Networks
mod Stands
mod Kept
