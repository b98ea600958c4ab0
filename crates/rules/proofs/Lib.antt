-- The laws that the proofs cite.
pub mod Refusals
mod Flags
mod Climb
mod TableLaws
mod AccessLayout
mod AccessEntries
