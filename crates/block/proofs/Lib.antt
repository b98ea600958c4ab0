-- The laws that the proofs cite.
mod PartLaws
mod Named
mod Fill
mod Entries
mod NearLaws
pub mod Kept
pub mod Theorems
