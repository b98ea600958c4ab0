-- The laws that the proofs cite.
mod Parts
mod Chains
mod Digits
mod Sizes
mod Turns
