-- The laws that the proofs cite; `Flagging` and `Wanted` have those for callers.
pub mod Flagging
pub mod Wanted
mod Filled
mod Fronts
mod Gathers
mod Cells
mod Squares
